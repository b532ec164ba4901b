-- The law over lists of calls: what every history of a port keeps, at any start image.
use Rattle.std.specs.Prelude.{◌≡◌, ℕ, ◌+◌, ◌/◌, ◌%◌, ◌<◌, ◌≤◌, Bool, true, false, cond, ◌&&◌, List, [], ◌∷◌, ◌++◌, length, Some, None, Option, ◌==◌}
use Rattle.port.specs.Book.{Event, after_calls, book}
use Rattle.port.specs.Lanes.{byte_in, enabled, lane, words_at}
use Rattle.port.specs.Machine.{Answers, beat_offset, burst_after, refusal_in}
use Rattle.port.specs.Refusals.{number_of}
use Rattle.port.specs.State.{State}
use Rattle.port.specs.Answers.{Answer, Clocked, Refused}
use Rattle.port.specs.declared.calls.Command.{Command}
use Rattle.port.specs.declared.calls.Command.TheVariants.{Idle, Read, Write}
use Rattle.port.specs.declared.calls.OpenBurst.{OpenBurst}
use Rattle.port.specs.declared.calls.Reply.{Reply}
use Rattle.port.specs.declared.calls.Reply.TheVariants as reply
use Rattle.port.specs.declared.numbers.Numbers.{Numbers}

-- What an answer says ---------------------------------------------------------

abbrev pub takes : Reply → Bool
takes reply.Idle = false
takes reply.Wait = false
takes reply.Take = true

abbrev pub was_taken : Answer → Bool
was_taken (Refused r) = false
was_taken (Clocked a x) = takes a

abbrev pub one_wait : Reply → ℕ
one_wait reply.Idle = 0
one_wait reply.Wait = 1
one_wait reply.Take = 0

abbrev pub wait_in : Answer → ℕ
wait_in (Refused r) = 0
wait_in (Clocked a x) = one_wait a

abbrev pub clock_in : Answer → ℕ
clock_in (Refused r) = 0
clock_in (Clocked a x) = 1

abbrev pub word_in : Answer → List ℕ
word_in (Refused r) = []
word_in (Clocked a None) = []
word_in (Clocked a (Some x)) = x ∷ []

-- The words returned and the words requested ----------------------------------

-- the words in the answers, in order
unfoldable pub words_returned : List Event → List ℕ
words_returned [] = []
words_returned (e ∷ h) = words_returned h ++ word_in e.answer

-- the write burst that a command leaves open, taken or not
abbrev pub left_open : Option OpenBurst → Command → Bool → Option OpenBurst
left_open b Idle t = b
left_open b (Read o k) t = b
left_open b (Write o k m d) t = cond t (burst_after b o.0 k) b

-- the write burst that a history leaves open
unfoldable pub open_after : List Event → Option OpenBurst
open_after [] = None
open_after (e ∷ h) = left_open (open_after h) e.call (was_taken e.answer)

-- a taken beat: where it went, and with which lanes
pub record Beat : Type 0 where
  pub at : ℕ
  pub lanes : ℕ
  pub content : ℕ

-- the beat of a command, taken or not
abbrev pub beat_of : Option OpenBurst → Command → Bool → List Beat
beat_of b Idle t = []
beat_of b (Read o k) t = []
beat_of b (Write o k m d) t = cond t (record { at = beat_offset b o.0; lanes = m; content = d } ∷ []) []

-- the taken beats of a history, the newest first
unfoldable pub beats_taken : List Event → List Beat
beats_taken [] = []
beats_taken (e ∷ h) = beat_of (open_after h) e.call (was_taken e.answer) ++ beats_taken h

-- does a beat store the byte at an address?
abbrev pub covers : ℕ → Beat → ℕ → Bool
covers w b address = address / w == b.at && enabled b.lanes (address % w)

-- the byte at an address: the one of the newest beat that stores it, else of the image
unfoldable pub byte_from : ℕ → List ℕ → List Beat → ℕ → ℕ
byte_from w image [] address = byte_in image address
byte_from w image (b ∷ older) address =
    cond (covers w b address) (lane b.content (address % w)) (byte_from w image older address)

-- the words that a command requests, taken or not
abbrev pub asked : ℕ → (ℕ → ℕ) → Command → Bool → List ℕ
asked w byte Idle t = []
asked w byte (Read o k) t = cond t (words_at w byte o.0 k) []
asked w byte (Write o k m d) t = []

-- the words that the taken reads requested, in order, each with the bytes that the image and the beats taken before
-- its read give
unfoldable pub words_requested : ℕ → List ℕ → List Event → List ℕ
words_requested w image [] = []
words_requested w image (e ∷ h) = words_requested w image h ++ asked w (byte_from w image (beats_taken h)) e.call (was_taken e.answer)

-- Stretches of calls -----------------------------------------------------------

-- no command is taken in a stretch
abbrev pub Untaken : List Event → Type 0
Untaken [] = Unit {0}
Untaken (e ∷ es) = (was_taken e.answer ≡ false) × Untaken es

-- how many calls of a stretch were told to wait
abbrev pub waits_in : List Event → ℕ
waits_in [] = 0
waits_in (e ∷ es) = wait_in e.answer + waits_in es

-- a refused call, or one that brings no word though some are owed before it
abbrev pub BringsNone : Answer → List ℕ → Type 0
BringsNone (Refused r) owed = Unit {0}
BringsNone (Clocked a None) owed = 0 < length owed
BringsNone (Clocked a (Some x)) owed = ⊥

-- a stretch after an older history whose every clocked call brings no word though some are owed before it
abbrev pub Silent : ℕ → List ℕ → List Event → List Event → Type 0
Silent w image [] older = Unit {0}
Silent w image (e ∷ es) older = BringsNone e.answer (book w image (es ++ older)).owed × Silent w image es older

-- how many calls of a stretch were clocked
abbrev pub clocked_in : List Event → ℕ
clocked_in [] = 0
clocked_in (e ∷ es) = clock_in e.answer + clocked_in es

-- The law ------------------------------------------------------------------------

-- a call is refused exactly for the rules' reasons, with their number, and otherwise answered in kind
abbrev pub Judged : Numbers → State → Command → Answer → Type 0
Judged n σ c (Refused r) = refusal_in n σ c ≡ Some (number_of r)
Judged n σ c (Clocked a x) = (refusal_in n σ c ≡ None) × Answers c a

-- what holds after the call e with the history h before it
pub record Lawful (n : Numbers) (image : List ℕ) (e : Event) (h : List Event) : Type 0 where
  pub judged : Judged n (book n.width image h) e.call e.answer
  -- words returned, then words owed, are exactly those requested
  pub words : words_returned (e ∷ h) ++ (book n.width image (e ∷ h)).owed ≡ words_requested n.width image (e ∷ h)
  -- never more than P bursts are owed
  pub pending : length (book n.width image (e ∷ h)).reads ≤ n.pending_limit
  -- calls without a take have at most A waits: a command repeated until taken waits at most A times
  pub waiting : (stretch older : List Event) → e ∷ h ≡ stretch ++ older → Untaken stretch → waits_in stretch ≤ n.wait_bound
  -- of clocked calls with words owed before them at most L in a row bring none
  pub silent : (stretch older : List Event) → e ∷ h ≡ stretch ++ older → Silent n.width image stretch older → clocked_in stretch ≤ n.silence_bound

-- the law after each call of a history
unfoldable pub Served : Numbers → List ℕ → List Event → Type 0
Served n image [] = Unit {0}
Served n image (e ∷ h) = Lawful n image e h × Served n image h

-- A run from a state, over a list of calls with their answers, to a state. Whatever the start image and the earlier
-- history whose book is the first state: the history with the run's calls added is served, and its book is the last state
abbrev pub Ran : Numbers → State → List Command → List Answer → State → Type 0
Ran n σ calls answers τ =
    (image : List ℕ) (earlier : List Event) → book n.width image earlier ≡ σ → Served n image earlier →
    Served n image (after_calls calls answers earlier) × (book n.width image (after_calls calls answers earlier) ≡ τ)
