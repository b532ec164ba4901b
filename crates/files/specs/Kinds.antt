-- The numbers that stand for the kinds of commands and for the piles.
use Rattle.std.specs.Prelude.{◌≡◌, ℕ, ◌<◌, None, Result, MatchResult}
use Rattle.files.specs.declared.faults.FileFault.{FileFault}
use Rattle.files.specs.declared.faults.FileFault.TheVariants.{Broken, OutOfRange}
use Rattle.files.specs.declared.kinds.CommandKind.{CommandKind}
use Rattle.files.specs.declared.kinds.CommandKind.TheVariants.{Idle, Read, Write, ReadAndWrite}
use Rattle.files.specs.declared.kinds.Pile.{Pile}
use Rattle.files.specs.declared.kinds.Pile.TheVariants.{Memory}
use Rattle.files.specs.Sections.{adapters_in}

-- the flags of a kind of command
abbrev pub flags_of : CommandKind → ℕ
flags_of Idle = 0
flags_of Read = 1
flags_of Write = 2
flags_of ReadAndWrite = 3

-- the kind with these flags, or a fault where they are beyond those named
abbrev pub NamesKind : ℕ → Result CommandKind FileFault → Type 0
NamesKind flags r = MatchResult r (λ kind. flags_of kind ≡ flags) (λ e. (e ≡ Broken) × (3 < flags))

-- the number of a pile
abbrev pub pile_number : Pile → ℕ
pile_number Memory = 2

-- the pile with this number, or a fault where it stands for no pile
abbrev pub NamesPile : ℕ → Result Pile FileFault → Type 0
NamesPile n r = MatchResult r (λ pile. pile_number pile ≡ n) (λ e. (e ≡ OutOfRange) × (adapters_in n ≡ None))
