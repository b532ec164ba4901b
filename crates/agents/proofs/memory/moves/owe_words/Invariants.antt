use Rattle.std.proofs.Common.{◌≡◌, ◌-◌, ◌++◌}
use Rattle.port.specs.Lanes.{byte_in, words_at}
use Rattle.agents.specs.Queue.{items, room}
use Rattle.agents.proofs.memory.moves.owe_words.Given as goal

-- the words before the place are owed
abbrev pub invariant-loop-place : goal.invariant-loop-place
invariant-loop-place g l =
    (room l.words ≡ room l.initial.words)
    × (items l.words ≡ items l.initial.words ++ words_at g.W.Width.BYTES (byte_in l.bytes.all.now) l.fn.offset.0 (l.place - l.fn.offset.0))
