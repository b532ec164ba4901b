use Rattle.std.proofs.Common.{◌≡◌, ℕ, ◌+◌, ◌*◌, ◌/◌, List, length, get_or, drop, sym, ap, ◌∙◌, subst, arith}
use Rattle.std.proofs.lemmas.List.{drop-drop, drop-set-lt}
use Rattle.port.specs.Legal.{Legal}
use Rattle.port.specs.declared.numbers.Numbers.{Numbers}
use Rattle.files.specs.Bytes.{bytes_at}
use Rattle.tools.specs.Calls.{Played}
use Rattle.files.specs.Fields.{command_record}
use Rattle.tools.specs.Plays.{SessionRan, commands_in}
use Rattle.files.specs.declared.records.CommandFields.{CommandFields}
use Rattle.tools.proofs.Sequences.{all_ran, chunk_at, fields_are, more_ran}
use Rattle.tools.proofs.player.play_all.Goals as goal

pub loop-i-preserved : goal.loop-i-preserved
loop-i-preserved g c =
    let i = c.loop-i.i in
    let xs = c.args.session.now.commands.bytes.now in
    let bs = c.loop-i.answers in
    let b = c.play_one.result in
    let n = g.P.Port.fixed c.args.port.now in
    let τ = g.P.Port.state c.loop-i.port in
    let υ = g.P.Port.state c.play_one.new.port in
    let same = c.loop-i.invariant.0 in
    let legal = subst (λ (m : Numbers). Legal m τ) same (g.met.P.Port.legal c.loop-i.port) in
    let here = c.records-records.ensures.each in
    let fields : c.unwrap-fields.result ≡ command_record (bytes_at xs (16 * i) 16) =
    fields_are _ (bytes_at xs (16 * i) 16) c.unwrap-fields.result
    (ap (λ (rs : List (List ℕ)). get_or rs i _) here ∙ chunk_at 16 (length xs / 16) xs i _ (omega (arith, c.records-records.ensures.count))) (sym c.unwrap-fields.ensures ∙ c.command_fields.ensures) in
    let played = subst (λ (m : Numbers). Played m τ c.unwrap-fields.result b υ) same c.play_one.ensures.plays in
    let plays = subst (λ (f : CommandFields). Played n τ f b υ) fields played in (
      c.play_one.ensures.fixed ∙ same,
      more_ran n (g.P.Port.state c.args.port.now) xs bs i τ b υ (omega arith) legal c.loop-i.invariant.1 plays,
      drop-set-lt (i + 1) bs i b (omega arith) ∙ sym (drop-drop 1 i bs) ∙ ap (drop 1) c.loop-i.invariant.2 ∙ drop-drop 1 i c.args.answers.now,
    )

pub returns : goal.returns
returns g c =
    let xs = c.args.session.now.commands.bytes.now in
    let bs = c.loop-i.answers in
    let n = g.P.Port.fixed c.args.port.now in
    let σ = g.P.Port.state c.args.port.now in
    let τ = g.P.Port.state c.loop-i.port in
    let all : c.loop-i.i ≡ length xs / 16 = omega (arith, c.records-records.ensures.count) in
    record {
      ran = (
        omega (arith, c.records-records.ensures.count),
        subst (λ j. SessionRan n σ (commands_in xs j) bs τ) all (all_ran n σ xs bs c.loop-i.i τ c.loop-i.invariant.1),
        subst (λ j. drop j bs ≡ drop j c.args.answers.now) all c.loop-i.invariant.2,
      );
      fixed = c.loop-i.invariant.0;
    }
