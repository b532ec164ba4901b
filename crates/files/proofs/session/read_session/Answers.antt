-- The reader's way through the six sections, up to each return: what is reached before a section is called by its name.
use Rattle.std.proofs.Common.{rules}
use Rattle.files.proofs.Trails.{start, go, go_pile, stop, over, ended, passed_in, accepted}
use Rattle.files.proofs.session.read_session.Goals as goal

pub returns-in_err-setup : goal.returns-in_err-setup
returns-in_err-setup c =
    let setup = start c.args.file _ _ c.new-reader.ensures.0 c.new-reader.ensures.1 in
    search (rules, stop setup c.in_err-setup.ensures.judged)

pub returns-in_err-adapters : goal.returns-in_err-adapters
returns-in_err-adapters c =
    let adapters = go_pile c.new-reader.ensures c.in_ok-setup.ensures.judged c.in_ok-setup.ensures.same c.in-Some.ensures in
    search (rules, stop adapters c.in_err-adapters.ensures.judged)

pub returns-in_err-waits : goal.returns-in_err-waits
returns-in_err-waits c =
    let adapters = go_pile c.new-reader.ensures c.in_ok-setup.ensures.judged c.in_ok-setup.ensures.same c.in-Some.ensures in
    let waits = go adapters c.in_ok-adapters.ensures.judged c.in_ok-adapters.ensures.same in
    search (rules, stop waits c.in_err-waits.ensures.judged)

pub returns-in_err-gaps : goal.returns-in_err-gaps
returns-in_err-gaps c =
    let adapters = go_pile c.new-reader.ensures c.in_ok-setup.ensures.judged c.in_ok-setup.ensures.same c.in-Some.ensures in
    let waits = go adapters c.in_ok-adapters.ensures.judged c.in_ok-adapters.ensures.same in
    let gaps = go waits c.in_ok-waits.ensures.judged c.in_ok-waits.ensures.same in
    search (rules, stop gaps c.in_err-gaps.ensures.judged)

pub returns-in_err-memory : goal.returns-in_err-memory
returns-in_err-memory c =
    let adapters = go_pile c.new-reader.ensures c.in_ok-setup.ensures.judged c.in_ok-setup.ensures.same c.in-Some.ensures in
    let waits = go adapters c.in_ok-adapters.ensures.judged c.in_ok-adapters.ensures.same in
    let gaps = go waits c.in_ok-waits.ensures.judged c.in_ok-waits.ensures.same in
    let memory = go gaps c.in_ok-gaps.ensures.judged c.in_ok-gaps.ensures.same in
    search (rules, stop memory c.in_err-memory.ensures.judged)

pub returns-in_err-commands : goal.returns-in_err-commands
returns-in_err-commands c =
    let adapters = go_pile c.new-reader.ensures c.in_ok-setup.ensures.judged c.in_ok-setup.ensures.same c.in-Some.ensures in
    let waits = go adapters c.in_ok-adapters.ensures.judged c.in_ok-adapters.ensures.same in
    let gaps = go waits c.in_ok-waits.ensures.judged c.in_ok-waits.ensures.same in
    let memory = go gaps c.in_ok-gaps.ensures.judged c.in_ok-gaps.ensures.same in
    let commands = go memory c.in_ok-memory.ensures.judged c.in_ok-memory.ensures.same in
    search (rules, stop commands c.in_err-commands.ensures.judged)

pub returns-in_err-end : goal.returns-in_err-end
returns-in_err-end c =
    let adapters = go_pile c.new-reader.ensures c.in_ok-setup.ensures.judged c.in_ok-setup.ensures.same c.in-Some.ensures in
    let waits = go adapters c.in_ok-adapters.ensures.judged c.in_ok-adapters.ensures.same in
    let gaps = go waits c.in_ok-waits.ensures.judged c.in_ok-waits.ensures.same in
    let memory = go gaps c.in_ok-gaps.ensures.judged c.in_ok-gaps.ensures.same in
    let commands = go memory c.in_ok-memory.ensures.judged c.in_ok-memory.ensures.same in
    search (rules, over commands c.in_ok-commands.ensures.judged c.in_ok-commands.ensures.same c.in_err-end.ensures)

pub returns : goal.returns
returns c =
    let adapters = go_pile c.new-reader.ensures c.in_ok-setup.ensures.judged c.in_ok-setup.ensures.same c.in-Some.ensures in
    let waits = go adapters c.in_ok-adapters.ensures.judged c.in_ok-adapters.ensures.same in
    let gaps = go waits c.in_ok-waits.ensures.judged c.in_ok-waits.ensures.same in
    let memory = go gaps c.in_ok-gaps.ensures.judged c.in_ok-gaps.ensures.same in
    let commands = go memory c.in_ok-memory.ensures.judged c.in_ok-memory.ensures.same in
    let e =
    ended commands c.in_ok-commands.ensures.judged c.in_ok-commands.ensures.same c.in_ok-end.ensures in
    accepted c.in-Some.pile c.new-reader.ensures.1
    (passed_in c.new-reader.ensures.0 c.in_ok-setup.ensures.judged) c.in-Some.ensures
    (passed_in adapters.same c.in_ok-adapters.ensures.judged)
    (passed_in waits.same c.in_ok-waits.ensures.judged)
    (passed_in gaps.same c.in_ok-gaps.ensures.judged)
    (passed_in memory.same c.in_ok-memory.ensures.judged)
    (passed_in commands.same c.in_ok-commands.ensures.judged)
    e.1 e.0
