-- The fields of records, by their places.
use Rattle.std.specs.Prelude.{ℕ, cond, List, length, Some, None, Option, ◌==◌, slice_index}
use Rattle.files.specs.declared.records.PileFields.{PileFields}
use Rattle.files.specs.declared.records.CommandFields.{CommandFields}
use Rattle.files.specs.Bytes.{number_at}

abbrev pub pile_record : List ℕ → PileFields
pile_record xs = record { pile = slice_index xs 0; burst_limit = slice_index xs 1; pending_limit = slice_index xs 2 }

-- three bytes are a pile's record, and no others are
abbrev pub pile_in : List ℕ → Option PileFields
pile_in xs = cond (length xs == 3) (Some (pile_record xs)) None

abbrev pub command_record : List ℕ → CommandFields
command_record xs = record {
  flags = number_at xs 0 1;
  mask = number_at xs 1 1;
  count = number_at xs 2 2;
  address = number_at xs 4 4;
  bits = number_at xs 8 8;
}

-- sixteen bytes are a command's record, and no others are
abbrev pub command_fields_in : List ℕ → Option CommandFields
command_fields_in xs = cond (length xs == 16) (Some (command_record xs)) None
