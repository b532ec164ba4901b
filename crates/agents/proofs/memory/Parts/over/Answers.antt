use Rattle.std.proofs.Common.{length}
use Rattle.agents.proofs.Building.{built}
use Rattle.agents.proofs.memory.Parts.over.Goals as goal

pub returns : goal.returns
returns g c =
    let s = c.args.storage in
    built g.W.Width.BYTES s.bytes.now s.waits.now s.gaps.now c.args.limits.burst c.args.limits.pending (length s.words.now) (length s.bursts.now)
    c.numbers-numbers.result c.over.result c.new.result c.new-2.result c.over-2.result c.over-3.result c.new-3.result _ _
    (record {
      wide = g.met.W.Width.widths;
      may = c.requires;
      numbers = c.numbers-numbers.ensures.are;
      small = c.numbers-numbers.ensures.small;
      memory = c.over.ensures.same;
      are_bytes = c.over.ensures.bytes;
      words_none = c.over-2.ensures.0;
      words_room = c.over-2.ensures.1;
      bursts_none = c.over-3.ensures.0;
      bursts_room = c.over-3.ensures.1;
      waits_are = c.new.ensures.0;
      waits_at = c.new.ensures.1;
      gaps_are = c.new-2.ensures.0;
      gaps_at = c.new-2.ensures.1;
    })
    (c.new-3.ensures s.bytes.now)
