use Rattle.std.proofs.Common.{◌≡◌, length, ap, arith}
use Rattle.port.specs.declared.record.PortRecord.{PortRecord}
use Rattle.port.proofs.Tally.{tally_read}
use Rattle.port.proofs.record.PortRecord.take.Goals as goal

-- a read that is taken adds its words and one burst to what is owed
pub returns-in-Read : goal.returns-in-Read
returns-in-Read c n σ e few short within =
    let was : c.args.self.now.words_owed ≡ length σ.owed = ap (λ (p : PortRecord). p.words_owed) e in
    let had : c.args.self.now.bursts_owed ≡ length σ.reads = ap (λ (p : PortRecord). p.bursts_owed) e in
    tally_read c.args.self.now n σ c.args.command c.in-Read.offset c.in-Read.count
    c.saturating_add-self.result c.saturating_add-self-in-Read.result e c.in-Read.is
    (omega (arith, c.saturating_add-self.ensures)) (omega (arith, c.saturating_add-self-in-Read.ensures))
