-- The law over lists of calls, from the port machine's moves.
use Rattle.std.proofs.Common.{◌≡◌, ℕ, ◌+◌, ◌-◌, ◌*◌, ◌/◌, ◌%◌, ◌<◌, ◌≤◌, Bool, true, false, cond, ◌⊎◌, List, [], ◌∷◌, ◌++◌, length, get_or, take, drop, set, Some, None, Option, sym, refl, ap, ◌∙◌, subst, inl, inr, add-mul, arith}
use Rattle.std.proofs.lemmas.Nat.{div-add-mod', div-mul-add, mod_below, mul-le}
use Rattle.std.proofs.lemmas.List.{append_assoc, append-nil, length-take-le, take_all, take_more, take_more_set}
use Rattle.std.proofs.lemmas.Bool.{cases_eq, cases_lt, eq-eqb, ne_eqb}
use Rattle.port.specs.Book.{Event, after_calls, book, fed}
use Rattle.port.specs.Lanes.{byte_in, enabled, lane, lanes_stored, stored}
use Rattle.port.specs.Legal.{Legal}
use Rattle.port.specs.Machine.{First, Moves, acted, beat_offset, command_rule, given, hold_rule, moved}
use Rattle.port.specs.Runs.{Beat, BringsNone, Judged, Lawful, Ran, Served, Silent, Untaken, asked, beat_of, beats_taken, byte_from, clock_in, clocked_in, covers, left_open, open_after, words_requested, words_returned, was_taken, takes, wait_in, waits_in, word_in}
use Rattle.port.specs.State.{State, Within}
use Rattle.port.specs.Answers.{Answer, Clocked, Refused}
use Rattle.port.specs.declared.calls.Command.{Command}
use Rattle.port.specs.declared.calls.Command.TheVariants.{Idle, Read, Write}
use Rattle.port.specs.declared.calls.OpenBurst.{OpenBurst}
use Rattle.port.specs.declared.calls.Reply.{Reply}
use Rattle.port.specs.declared.calls.Reply.TheVariants as reply
use Rattle.port.specs.declared.numbers.Numbers.{Numbers}
use Rattle.port.proofs.Bytes.{length_lanes_stored, stored_inside, stored_outside, words_agree}
use Rattle.port.proofs.Kept.{read_fits, silence_acted}
use Rattle.port.proofs.Rules.{first_later}
use Rattle.port.proofs.Steps.{silence_more}
use Rattle.port.proofs.Tally.{wide_some}

-- Bytes ---------------------------------------------------------------------------

-- which byte stands where after a beat
pub store_byte : (w o m d : ℕ) (memory : List ℕ) (a : ℕ) → 1 ≤ w → a < length memory →
    byte_in (stored w o m d memory) a ≡ cond (covers w (record { at = o; lanes = m; content = d }) a) (lane d (a % w)) (byte_in memory a)
store_byte w o m d memory a some fits =
    let split = div-add-mod' a w in
    let below = mod_below a w (omega arith) in
    elim (cases_eq (a / w) o) [
      | inl e ↦
          let place : o * w + a % w ≡ a = ap (λ q. q * w + a % w) (sym e) ∙ split in
          let inside = stored_inside (o * w) m d w memory (a % w) below (omega arith) in
          let here : byte_in (stored w o m d memory) a ≡ cond (enabled m (a % w)) (lane d (a % w)) (byte_in memory a) =
          subst (λ q. get_or (lanes_stored (o * w) m d w memory) q 0 ≡ cond (enabled m (a % w)) (lane d (a % w)) (get_or memory q 0)) place inside in
          rw (eq-eqb (a / w) o e) here
      | inr ne ↦
          let out : (a < o * w) ⊎ (o * w + w ≤ a) = elim (cases_lt a (o * w)) [
            | inl h ↦ inl h
            | inr h ↦ elim (cases_lt a (o * w + w)) [
              | inl k ↦ let r : o * w + (a - o * w) ≡ a = omega arith in absurd (ne (ap (λ q. q / w) (sym r) ∙ div-mul-add o w (a - o * w) (omega arith)))
              | inr k ↦ inr k
            ]
          ] in
          rw (ne_eqb (a / w) o ne) (stored_outside (o * w) m d w memory a out)
    ]

byte_acted : (w : ℕ) (c : Command) (b : Reply) (σ : State) (image : List ℕ) (older : List Beat) (a : ℕ) → 1 ≤ w → a < length σ.memory →
    byte_in σ.memory a ≡ byte_from w image older a → byte_in (acted w c b σ).memory a ≡ byte_from w image (beat_of σ.burst c (takes b) ++ older) a
unfolding byte_from
byte_acted w Idle reply.Idle σ image older a some fits e = e
byte_acted w Idle reply.Wait σ image older a some fits e = e
byte_acted w Idle reply.Take σ image older a some fits e = e
byte_acted w (Read o k) reply.Idle σ image older a some fits e = e
byte_acted w (Read o k) reply.Wait σ image older a some fits e = e
byte_acted w (Read o k) reply.Take σ image older a some fits e = e
byte_acted w (Write o k m d) reply.Idle σ image older a some fits e = e
byte_acted w (Write o k m d) reply.Wait σ image older a some fits e = e
byte_acted w (Write o k m d) reply.Take σ image older a some fits e =
    rw (← e) (store_byte w (beat_offset σ.burst o.0) m d σ.memory a some fits)

byte_refused : (w : ℕ) (c : Command) (b : Option OpenBurst) (image : List ℕ) (older : List Beat) (a : ℕ) → byte_from w image (beat_of b c false ++ older) a ≡ byte_from w image older a
byte_refused w Idle b image older a = refl
byte_refused w (Read o k) b image older a = refl
byte_refused w (Write o k m d) b image older a = refl

byte_fed : (w : ℕ) (c : Command) (b : Answer) (σ : State) (image : List ℕ) (older : List Beat) (a : ℕ) → 1 ≤ w → a < length σ.memory →
    byte_in σ.memory a ≡ byte_from w image older a → byte_in (fed w σ c b).memory a ≡ byte_from w image (beat_of σ.burst c (was_taken b) ++ older) a
byte_fed w c (Refused r) σ image older a some fits e = e ∙ sym (byte_refused w c σ.burst image older a)
byte_fed w c (Clocked b None) σ image older a some fits e = byte_acted w c b (given None σ) image older a some fits e
byte_fed w c (Clocked b (Some x)) σ image older a some fits e = byte_acted w c b (given (Some x) σ) image older a some fits e

burst_acted : (w : ℕ) (c : Command) (b : Reply) (σ : State) → (acted w c b σ).burst ≡ left_open σ.burst c (takes b)
burst_acted w Idle reply.Idle σ = refl
burst_acted w Idle reply.Wait σ = refl
burst_acted w Idle reply.Take σ = refl
burst_acted w (Read o k) reply.Idle σ = refl
burst_acted w (Read o k) reply.Wait σ = refl
burst_acted w (Read o k) reply.Take σ = refl
burst_acted w (Write o k m d) reply.Idle σ = refl
burst_acted w (Write o k m d) reply.Wait σ = refl
burst_acted w (Write o k m d) reply.Take σ = refl

burst_refused : (b : Option OpenBurst) (c : Command) → b ≡ left_open b c false
burst_refused b Idle = refl
burst_refused b (Read o k) = refl
burst_refused b (Write o k m d) = refl

burst_fed : (w : ℕ) (c : Command) (b : Answer) (σ : State) → (fed w σ c b).burst ≡ left_open σ.burst c (was_taken b)
burst_fed w c (Refused r) σ = burst_refused σ.burst c
burst_fed w c (Clocked b None) σ = burst_acted w c b (given None σ)
burst_fed w c (Clocked b (Some x)) σ = burst_acted w c b (given (Some x) σ)

size_acted : (w : ℕ) (c : Command) (b : Reply) (σ : State) → length (acted w c b σ).memory ≡ length σ.memory
size_acted w Idle reply.Idle σ = refl
size_acted w Idle reply.Wait σ = refl
size_acted w Idle reply.Take σ = refl
size_acted w (Read o k) reply.Idle σ = refl
size_acted w (Read o k) reply.Wait σ = refl
size_acted w (Read o k) reply.Take σ = refl
size_acted w (Write o k m d) reply.Idle σ = refl
size_acted w (Write o k m d) reply.Wait σ = refl
size_acted w (Write o k m d) reply.Take σ = length_lanes_stored (beat_offset σ.burst o.0 * w) m d w σ.memory

size_fed : (w : ℕ) (c : Command) (b : Answer) (σ : State) → length (fed w σ c b).memory ≡ length σ.memory
size_fed w c (Refused r) σ = refl
size_fed w c (Clocked b None) σ = size_acted w c b (given None σ)
size_fed w c (Clocked b (Some x)) σ = size_acted w c b (given (Some x) σ)

-- a book keeps the size of its image, and opens bursts as its history does
book_size : (w : ℕ) (image : List ℕ) (h : List Event) → length (book w image h).memory ≡ length image
unfolding book
book_size w image [] = refl
book_size w image (e ∷ h) = size_fed w e.call e.answer (book w image h) ∙ book_size w image h

book_burst : (w : ℕ) (image : List ℕ) (h : List Event) → (book w image h).burst ≡ open_after h
unfolding book open_after
book_burst w image [] = refl
book_burst w image (e ∷ h) =
    burst_fed w e.call e.answer (book w image h) ∙ ap (λ b. left_open b e.call (was_taken e.answer)) (book_burst w image h)

-- each byte of a book's memory is that of the newest beat that stores it, else of the image
book_byte : (w : ℕ) (image : List ℕ) (h : List Event) (a : ℕ) → 1 ≤ w → a < length image → byte_in (book w image h).memory a ≡ byte_from w image (beats_taken h) a
unfolding book beats_taken byte_from
book_byte w image [] a some fits = refl
book_byte w image (e ∷ h) a some fits =
    let fit : a < length (book w image h).memory = omega (arith, book_size w image h) in
    subst (λ b. byte_in (fed w (book w image h) e.call e.answer).memory a ≡ byte_from w image (beat_of b e.call (was_taken e.answer) ++ beats_taken h) a)
    (book_burst w image h)
    (byte_fed w e.call e.answer (book w image h) image (beats_taken h) a some fit (book_byte w image h a some fits))

-- Words ----------------------------------------------------------------------------

owed_acted : (w : ℕ) (c : Command) (b : Reply) (σ : State) → (acted w c b σ).owed ≡ σ.owed ++ asked w (byte_in σ.memory) c (takes b)
owed_acted w Idle reply.Idle σ = sym (append-nil σ.owed)
owed_acted w Idle reply.Wait σ = sym (append-nil σ.owed)
owed_acted w Idle reply.Take σ = sym (append-nil σ.owed)
owed_acted w (Read o k) reply.Idle σ = sym (append-nil σ.owed)
owed_acted w (Read o k) reply.Wait σ = sym (append-nil σ.owed)
owed_acted w (Read o k) reply.Take σ = refl
owed_acted w (Write o k m d) reply.Idle σ = sym (append-nil σ.owed)
owed_acted w (Write o k m d) reply.Wait σ = sym (append-nil σ.owed)
owed_acted w (Write o k m d) reply.Take σ = sym (append-nil σ.owed)

first_out : (x : ℕ) (owed new : List ℕ) → First (Some x) owed → x ∷ (drop 1 owed ++ new) ≡ owed ++ new
first_out x [] new f = absurd f
first_out x (y ∷ owed) new f = ap (λ z. z ∷ (owed ++ new)) f

-- the word that comes, then what is owed, is what was owed, then what is asked
owed_next : (w : ℕ) (c : Command) (b : Reply) (x : Option ℕ) (σ : State) → First x σ.owed →
    word_in (Clocked b x) ++ (moved w σ c b x).owed ≡ σ.owed ++ asked w (byte_in σ.memory) c (takes b)
owed_next w c b None σ first = owed_acted w c b (given None σ)
owed_next w c b (Some x) σ first =
    ap (λ xs. x ∷ xs) (owed_acted w c b (given (Some x) σ)) ∙ first_out x σ.owed (asked w (byte_in σ.memory) c (takes b)) first

asked_none : (w : ℕ) (byte : ℕ → ℕ) (c : Command) → asked w byte c false ≡ []
asked_none w byte Idle = refl
asked_none w byte (Read o k) = refl
asked_none w byte (Write o k m d) = refl

asked_agree : (n : Numbers) (b : Option OpenBurst) (f g : ℕ → ℕ) (c : Command) (t : Bool) → command_rule n b c ≡ None →
    ((i : ℕ) → i < n.words * n.width → f i ≡ g i) → asked n.width f c t ≡ asked n.width g c t
asked_agree n b f g Idle t free same = refl
asked_agree n b f g (Read o k) true free same =
    let fits = read_fits n b o k free in
    let w = n.width in
    let most = mul-le (o.0 + k) w n.words w fits.2 (omega arith) in
    words_agree w f g o.0 k (n.words * w) same (omega (arith, add-mul o.0 k w))
asked_agree n b f g (Read o k) false free same = refl
asked_agree n b f g (Write o k m d) t free same = refl

words_so_far : (n : Numbers) (image : List ℕ) (h : List Event) → Served n image h → words_returned h ++ (book n.width image h).owed ≡ words_requested n.width image h
unfolding Served words_returned words_requested book
words_so_far n image [] served = refl
words_so_far n image (e ∷ h) served = served.0.words

-- Stretches ------------------------------------------------------------------------

waits_acted : (w : ℕ) (c : Command) (b : Reply) (σ : State) → takes b ≡ false → (acted w c b σ).waits ≡ wait_in (Clocked b None) + σ.waits
waits_acted w Idle reply.Idle σ t = omega arith
waits_acted w Idle reply.Wait σ t = omega arith
waits_acted w Idle reply.Take σ t = cc
waits_acted w (Read o k) reply.Idle σ t = omega arith
waits_acted w (Read o k) reply.Wait σ t = omega arith
waits_acted w (Read o k) reply.Take σ t = cc
waits_acted w (Write o k m d) reply.Idle σ t = omega arith
waits_acted w (Write o k m d) reply.Wait σ t = omega arith
waits_acted w (Write o k m d) reply.Take σ t = cc

waits_fed : (w : ℕ) (c : Command) (b : Answer) (σ : State) → was_taken b ≡ false → (fed w σ c b).waits ≡ wait_in b + σ.waits
waits_fed w c (Refused r) σ t = omega arith
waits_fed w c (Clocked b None) σ t = waits_acted w c b (given None σ) t
waits_fed w c (Clocked b (Some x)) σ t = waits_acted w c b (given (Some x) σ) t

waits_book : (w : ℕ) (image : List ℕ) (stretch older : List Event) → Untaken stretch → waits_in stretch ≤ (book w image (stretch ++ older)).waits
unfolding book
waits_book w image [] older none = omega arith
waits_book w image (e ∷ es) older none =
    let rest = waits_book w image es older none.1 in
    let step = waits_fed w e.call e.answer (book w image (es ++ older)) none.0 in
    omega arith

silence_fed : (w : ℕ) (c : Command) (b : Answer) (σ : State) → BringsNone b σ.owed → (fed w σ c b).silence ≡ clock_in b + σ.silence
silence_fed w c (Refused r) σ none = omega arith
silence_fed w c (Clocked b None) σ none = silence_acted w c b (given None σ) ∙ silence_more σ.owed σ.silence none
silence_fed w c (Clocked b (Some x)) σ none = absurd none

silence_book : (w : ℕ) (image : List ℕ) (stretch older : List Event) → Silent w image stretch older → clocked_in stretch ≤ (book w image (stretch ++ older)).silence
unfolding book
silence_book w image [] older none = omega arith
silence_book w image (e ∷ es) older none =
    let rest = silence_book w image es older none.1 in
    let step = silence_fed w e.call e.answer (book w image (es ++ older)) none.0 in
    omega arith

-- One call more ---------------------------------------------------------------------

-- the book's move, from the port's
fed_moves : (n : Numbers) (σ : State) (c : Command) (b : Answer) (τ : State) → Moves n σ c b τ → fed n.width σ c b ≡ τ
fed_moves n σ c (Refused r) τ moves = sym moves.1
fed_moves n σ c (Clocked a x) τ moves = sym moves.moves

judged_moves : (n : Numbers) (σ : State) (c : Command) (b : Answer) (τ : State) → Moves n σ c b τ → Judged n σ c b
judged_moves n σ c (Refused r) τ moves = moves.0
judged_moves n σ c (Clocked a x) τ moves = (moves.legal, moves.answers)

within_moves : (n : Numbers) (σ : State) (c : Command) (b : Answer) (τ : State) → Legal n σ → Moves n σ c b τ → Within n τ
within_moves n σ c (Refused r) τ legal moves = subst (Within n) (sym moves.1) legal.within
within_moves n σ c (Clocked a x) τ legal moves = moves.within

words_moves : (n : Numbers) (σ : State) (c : Command) (b : Answer) (τ : State) (byte : ℕ → ℕ) (before wanted : List ℕ) → Moves n σ c b τ →
    ((i : ℕ) → i < n.words * n.width → byte_in σ.memory i ≡ byte i) → before ++ σ.owed ≡ wanted →
    (before ++ word_in b) ++ τ.owed ≡ wanted ++ asked n.width byte c (was_taken b)
words_moves n σ c (Refused r) τ byte before wanted moves same so_far =
    ap (λ xs. xs ++ τ.owed) (append-nil before) ∙ ap (λ (υ : State). before ++ υ.owed) moves.1 ∙ so_far ∙ sym (append-nil wanted) ∙ ap (λ xs. wanted ++ xs) (sym (asked_none n.width byte c))
words_moves n σ c (Clocked a x) τ byte before wanted moves same so_far =
    let w = n.width in
    let free = first_later (hold_rule σ.burst σ.held c) (command_rule n σ.burst c) moves.legal in
    let went = ap (λ (υ : State). word_in (Clocked a x) ++ υ.owed) moves.moves ∙ owed_next w c a x σ moves.first in
    let new = asked_agree n σ.burst (byte_in σ.memory) byte c (takes a) free same in
    append_assoc before (word_in (Clocked a x)) τ.owed ∙ ap (λ xs. before ++ xs) went
    ∙ sym (append_assoc before σ.owed (asked w (byte_in σ.memory) c (takes a)))
    ∙ ap (λ xs. xs ++ asked w (byte_in σ.memory) c (takes a)) so_far ∙ ap (λ xs. wanted ++ xs) new

pub lawful : (n : Numbers) (image : List ℕ) (h : List Event) (σ : State) (c : Command) (b : Answer) (τ : State) → Legal n σ → book n.width image h ≡ σ → Served n image h → Moves n σ c b τ →
    Lawful n image (record { call = c; answer = b }) h
unfolding book words_returned words_requested
lawful n image h σ c b τ legal is served moves =
    let w = n.width in
    let e : Event = record { call = c; answer = b } in
    let some = wide_some w legal.ranges.wide in
    let now-is : book w image (e ∷ h) ≡ τ = ap (λ (υ : State). fed w υ c b) is ∙ fed_moves n σ c b τ moves in
    let kept = subst (Within n) (sym now-is) (within_moves n σ c b τ legal moves) in
    let size : length image ≡ n.words * w = sym (book_size w image h) ∙ ap (λ (υ : State). length υ.memory) is ∙ legal.size in
    let same : (i : ℕ) → i < n.words * w → byte_in σ.memory i ≡ byte_from w image (beats_taken h) i =
    λ i lt. ap (λ (υ : State). byte_in υ.memory i) (sym is) ∙ book_byte w image h i some.0 (omega arith) in
    let so_far : words_returned h ++ σ.owed ≡ words_requested w image h = ap (λ (υ : State). words_returned h ++ υ.owed) (sym is) ∙ words_so_far n image h served in
    let words = words_moves n σ c b τ (byte_from w image (beats_taken h)) (words_returned h) (words_requested w image h) moves same so_far in
    record {
      judged = subst (λ (υ : State). Judged n υ c b) (sym is) (judged_moves n σ c b τ moves);
      words = ap (λ (υ : State). (words_returned h ++ word_in b) ++ υ.owed) now-is ∙ words;
      pending = kept.pending;
      waiting = λ stretch older cut none.
          let most = waits_book w image stretch older none in
          let less = ap (λ (k : List Event). (book w image k).waits) cut in
          omega (arith, kept.waiting);
      silent = λ stretch older cut none.
          let most = silence_book w image stretch older none in
          let less = ap (λ (k : List Event). (book w image k).silence) cut in
          omega (arith, kept.silent);
    }

-- Runs --------------------------------------------------------------------------------

after_push : (cs : List Command) (bs : List Answer) (c : Command) (b : Answer) (h : List Event) → length cs ≡ length bs →
    after_calls (cs ++ (c ∷ [])) (bs ++ (b ∷ [])) h ≡ record { call = c; answer = b } ∷ after_calls cs bs h
after_push [] [] c b h same = refl
after_push [] (y ∷ bs) c b h same = absurd (omega arith)
after_push (x ∷ cs) [] c b h same = absurd (omega arith)
after_push (x ∷ cs) (y ∷ bs) c b h same = after_push cs bs c b (record { call = x; answer = y } ∷ h) (omega arith)

pub after_take : (cs : List Command) (bs : List Answer) (h : List Event) → after_calls cs (take (length cs) bs) h ≡ after_calls cs bs h
after_take [] bs h = refl
after_take (c ∷ cs) [] h = refl
after_take (c ∷ cs) (b ∷ bs) h = after_take cs bs (record { call = c; answer = b } ∷ h)

-- a served history with one call more
pub served_more : (n : Numbers) (image : List ℕ) (h : List Event) (σ : State) (c : Command) (b : Answer) (τ : State) → Legal n σ → book n.width image h ≡ σ → Served n image h → Moves n σ c b τ →
    Served n image (record { call = c; answer = b } ∷ h) × (book n.width image (record { call = c; answer = b } ∷ h) ≡ τ)
unfolding Served book
served_more n image h σ c b τ legal is served moves = (
  (lawful n image h σ c b τ legal is served moves, served),
  ap (λ (ρ : State). fed n.width ρ c b) is ∙ fed_moves n σ c b τ moves,
)

pub ran_none : (n : Numbers) (σ : State) (bs : List Answer) → Ran n σ [] bs σ
ran_none n σ bs image h is served = (served, is)

pub ran_push : (n : Numbers) (σ : State) (cs : List Command) (bs : List Answer) (τ : State) (c : Command) (b : Answer) (υ : State) →
    length cs ≡ length bs → Legal n τ → Ran n σ cs bs τ → Moves n τ c b υ → Ran n σ (cs ++ (c ∷ [])) (bs ++ (b ∷ [])) υ
ran_push n σ cs bs τ c b υ same legal ran moves image h is served =
    let so_far = ran image h is served in
    let more = after_push cs bs c b h same in
    let one = served_more n image (after_calls cs bs h) τ c b υ legal so_far.1 so_far.0 moves in
    (subst (Served n image) (sym more) one.0, ap (λ (g : List Event). book n.width image g) more ∙ one.1)

-- one turn of a run over a list
pub ran_step : (n : Numbers) (σ : State) (cs : List Command) (bs : List Answer) (i : ℕ) (τ : State) (b : Answer) (υ : State) → i < length cs → i < length bs → Legal n τ →
    Ran n σ (take i cs) (take i bs) τ → Moves n τ (get_or cs i Idle) b υ → Ran n σ (take (i + 1) cs) (take (i + 1) (set bs i b)) υ
ran_step n σ cs bs i τ b υ call place legal ran moves =
    let same : length (take i cs) ≡ length (take i bs) = length-take-le i cs (omega arith) ∙ sym (length-take-le i bs (omega arith)) in
    rw (take_more cs i Idle call, take_more_set bs i b place) (ran_push n σ (take i cs) (take i bs) τ (get_or cs i Idle) b υ same legal ran moves)

-- the whole list
pub ran_all : (n : Numbers) (σ : State) (cs : List Command) (bs : List Answer) (i : ℕ) (τ : State) → i ≡ length cs → Ran n σ (take i cs) (take i bs) τ → Ran n σ cs bs τ
ran_all n σ cs bs i τ all ran image h is served =
    let whole = take_all i cs (omega arith) in
    let got = ran image h is served in
    let cut : take i bs ≡ take (length cs) bs = ap (λ j. take j bs) all in
    let same : after_calls (take i cs) (take i bs) h ≡ after_calls cs bs h = ap (λ (ds : List Command). after_calls ds (take i bs) h) whole ∙ ap (λ (ds : List Answer). after_calls cs ds h) cut ∙ after_take cs bs h in
    (subst (Served n image) same got.0, ap (λ (k : List Event). book n.width image k) (sym same) ∙ got.1)
