use Rattle.std.proofs.Common.{Ok, ap, sym, subst, ◌∙◌}
use Rattle.agents.proofs.Served.{Steps, ready, leaves, with_plain}
use Rattle.agents.specs.Memory.{fixed_of, state_of, Timed}
use Rattle.port.specs.Legal.{came_word}
use Rattle.port.specs.Machine.{Moves}
use Rattle.agents.proofs.memory.clocks.ScriptedMemory.serve.Goals as goal

pub act-requires : goal.act-requires
act-requires g c =
    let m = c.args.self.now in
    ready g.W.Width.BYTES m.parts c.give-returned.new.self c.args.command c.reply-reply.result (came_word c.give-returned.result) m.sound m.named c.requires c.reply-reply.ensures c.give-returned.ensures.gave

pub invariant_of-self : goal.invariant_of-self
invariant_of-self g c =
    let m = c.args.self.now in
    let w = g.W.Width.BYTES in
    let x = came_word c.give-returned.result in
    let steps : Steps w m.parts c.give-returned.new.self c.act.new.self c.clock.new.self c.args.command c.reply-reply.result x =
    record {
      sound = m.sound;
      wide = m.named;
      free = c.requires;
      replies = c.reply-reply.ensures;
      gave = c.give-returned.ensures.gave;
      acts = c.act.ensures;
      told = λ e. c.clock.ensures.moves (fixed_of m.parts) (state_of m.parts) e m.sound.legal c.requires c.give-returned.ensures.told;
    } in
    let left = leaves w m.parts c.give-returned.new.self c.act.new.self c.clock.new.self c.args.command c.reply-reply.result x in
    record {
      sound = (left _ _ steps).sound;
      named = ap (λ n. n.width) (left c.act.new.self.waits_in c.act.new.self.gaps_in steps).fixed ∙ m.named;
    }

pub returns : goal.returns
returns g c =
    let m = c.args.self.now in
    let w = g.W.Width.BYTES in
    let x = came_word c.give-returned.result in
    let steps : Steps w m.parts c.give-returned.new.self c.act.new.self c.clock.new.self c.args.command c.reply-reply.result x =
    record {
      sound = m.sound;
      wide = m.named;
      free = c.requires;
      replies = c.reply-reply.ensures;
      gave = c.give-returned.ensures.gave;
      acts = c.act.ensures;
      told = λ e. c.clock.ensures.moves (fixed_of m.parts) (state_of m.parts) e m.sound.legal c.requires c.give-returned.ensures.told;
    } in
    let is = with_plain c.act.new.self c.clock.new.self c.act.new.self.waits_in c.act.new.self.gaps_in in
    let left = leaves w m.parts c.give-returned.new.self c.act.new.self c.clock.new.self c.args.command c.reply-reply.result x c.act.new.self.waits_in c.act.new.self.gaps_in steps in
    let same = sym c.clock.ensures.answer in
    record {
      fixed = left.fixed;
      moves = subst (λ r. Moves (fixed_of m.parts) (state_of m.parts) c.args.command (Ok r) (state_of is)) same left.moves;
      timing = subst (λ r. Timed m.parts c.args.command (Ok r) is) same left.timing;
    }
