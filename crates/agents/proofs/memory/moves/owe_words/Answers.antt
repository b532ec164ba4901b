use Rattle.std.proofs.Common.{◌-◌, length, ap, ◌∙◌, arith}
use Rattle.std.proofs.lemmas.List.{length-append}
use Rattle.port.proofs.Bytes.{length_words_at}
use Rattle.port.specs.Lanes.{byte_in, words_at}
use Rattle.agents.proofs.Joined.{owed_more}
use Rattle.agents.specs.Queue.{items}
use Rattle.agents.proofs.memory.moves.owe_words.Goals as goal

pub push-requires : goal.push-requires
push-requires g c =
    let byte = byte_in c.args.bytes.now.all.now in
    let n = c.loop-place.place - c.args.offset.0 in
    let long = length_words_at g.W.Width.BYTES byte c.args.offset.0 n in
    omega (arith, ap length c.loop-place.invariant.1 ∙ length-append (items c.args.words.now) (words_at g.W.Width.BYTES byte c.args.offset.0 n))

pub loop-place-preserved : goal.loop-place-preserved
loop-place-preserved g c = (
  c.push.ensures.1 ∙ c.loop-place.invariant.0,
  owed_more g.W.Width.BYTES (byte_in c.args.bytes.now.all.now) c.args.offset.0 c.loop-place.place c.word_at.result (items c.args.words.now) (items c.loop-place.words) (items c.push.new.self)
      (omega arith) c.word_at.ensures c.loop-place.invariant.1 c.push.ensures.0,
)
