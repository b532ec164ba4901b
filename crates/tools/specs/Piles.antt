-- What the player promises of a session that was played.
use Rattle.std.specs.Prelude.{◌≡◌, ℕ, ◌*◌, ◌/◌, List, [], length, take, Ok, Err, vec_items, Result}
use Rattle.std.specs.Borrow.{Bor}
use Rattle.agents.specs.Building.{Buildable, numbers_of}
use Rattle.port.specs.Book.{Event, book}
use Rattle.port.specs.Runs.{Served}
use Rattle.port.specs.Answers.{Answer}
use Rattle.port.specs.declared.numbers.Numbers.{Numbers}
use Rattle.files.specs.Forms.{Contents, WellFormed}
use Rattle.files.specs.Kinds.{pile_number}
use Rattle.files.specs.Sessions.{Rejected}
use Rattle.tools.specs.Plays.{AllRightly, after_commands, commands_in, takes_in}
use Rattle.tools.specs.declared.piles.Places.{Places}
use Rattle.tools.specs.declared.piles.Played.{Played}
use Rattle.tools.specs.declared.piles.Stop.{Stop}
use Rattle.tools.specs.declared.piles.Stop.TheVariants as stop
use Rattle.tools.specs.declared.piles.Summary.{Summary}
use Rattle.files.specs.declared.records.PileFields.{PileFields}
use Rattle.files.specs.declared.session.Session.{Session}

-- how many commands stand in the bytes of a section of commands
abbrev pub count_of : List ℕ → ℕ
count_of xs = length xs / 16

-- the history of a session: its clocked calls, on a port at reset
abbrev pub session_history : Numbers → List ℕ → List Answer → List Event
session_history n xs bs = after_commands n.width (commands_in xs (count_of xs)) bs []

-- The commands in these bytes were played on a port with these numbers at reset on this image: every command is refused
-- exactly for the rules' reasons, the history of the clocked calls is served, and the summary counts what was taken and
-- what is owed
pub record Plays (n : Numbers) (image xs : List ℕ) (bs : List Answer) (end : Summary) : Type 0 where
  pub served : Served n image (session_history n xs bs)
  pub rightly : AllRightly n image (commands_in xs (count_of xs)) bs []
  pub top : end.top ≡ n
  pub taken : end.taken ≡ takes_in (take (count_of xs) bs)
  pub owed : end.owed ≡ length (book n.width image (session_history n xs bs)).owed

-- the numbers of the top port of pile 2, over a memory of this many bytes
abbrev pub numbers_over : PileFields → ℕ → List ℕ → List ℕ → Numbers
numbers_over p size wait_list gap_list = numbers_of 4 size wait_list gap_list p.burst_limit p.pending_limit

-- pile 2 can be built over so many bytes, values of the scripts, and places for words and read bursts
abbrev pub Fitting : PileFields → ℕ → ℕ → ℕ → ℕ → ℕ → Type 0
Fitting p size wait_values gap_values word_places burst_places =
    (p.pile ≡ 2) × Buildable size wait_values gap_values word_places burst_places p.burst_limit p.pending_limit

-- a session that was played: its memory is the image, and there is an answer for each command
pub record SessionPlayed (s : Session) (p : Played) : Type 0 where
  pub pile : pile_number p.pile ≡ s.pile.pile
  pub plays : Plays (numbers_over s.pile (length s.memory.bytes.now) s.waits.bytes.now s.gaps.bytes.now) s.memory.bytes.now s.commands.bytes.now (vec_items p.answers) p.summary
  pub all : length (vec_items p.answers) ≡ count_of s.commands.bytes.now

-- the numbers of the top port of a session
abbrev pub top_numbers : Contents → Numbers
top_numbers c = numbers_of 4 (length c.memory_bytes) c.wait_bytes c.gap_bytes c.burst c.pending

-- what playing a file gives: the file is well formed, and what it holds was played; or its first fault. Whether there is
-- memory is left free
abbrev pub FilePlayed : Bor (List ℕ) → Result Played Stop → Type 0
FilePlayed whole (Ok p) =
    (c : Contents) × WellFormed whole.now c × (pile_number p.pile ≡ c.pile_number)
    × Plays (top_numbers c) c.memory_bytes c.command_bytes (vec_items p.answers) p.summary
    × (length (vec_items p.answers) ≡ count_of c.command_bytes)
FilePlayed whole (Err (stop.Fault f)) = Rejected whole f
FilePlayed whole (Err stop.NoMemory) = Unit {0}

-- places for a session: the bytes of its memory, and room for B × P words, P read bursts and an answer for each command
pub record PlacesFor (s : Session) (p : Places) : Type 0 where
  pub bytes : vec_items p.bytes ≡ s.memory.bytes.now
  pub words : length (vec_items p.words) ≡ s.pile.burst_limit * s.pile.pending_limit
  pub bursts : length (vec_items p.bursts) ≡ s.pile.pending_limit
  pub answers : length (vec_items p.answers) ≡ count_of s.commands.bytes.now
