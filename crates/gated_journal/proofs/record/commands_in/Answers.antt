use Rattle.std.proofs.Common.{rules, ◌≡◌, ◌+◌, ◌-◌, ◌≢◌, suc, length, option_map, None, Some, ap, sym, ◌∙◌, arith}
use Rattle.command_bytes.specs.Reading.{first_command}
use Rattle.gated_journal.specs.Record.{commands_in}
use Rattle.gated_journal.proofs.Steps.{commands_none, commands_more, commands_fault, commands_end, commands_past}
use Rattle.gated_journal.proofs.record.commands_in.Goals as goal

pub loop-init : goal.loop-init
loop-init g c =
    let all : c.args.count - 0 ≡ c.args.count = omega arith in
    rw (c.in_ok-commands.ensures.items, all) (commands_none c.args.count c.args.bytes.now)

pub returns-in_default : goal.returns-in_default
returns-in_default g c =
    let left : c.args.count - c.loop.counter ≡ suc (c.args.count - (c.loop.counter + 1)) = omega (arith, c.loop-test.true) in
    let none : first_command {A = g.row.A.Denot} c.loop.rest.now ≡ None = sym c.in_ok-command.ensures.exact ∙ ap (option_map (λ x. (x.0, x.1.now))) c.in_default.is in
    commands_fault c.loop.commands.items (c.args.count - (c.loop.counter + 1)) c.loop.rest.now (commands_in c.args.count c.args.bytes.now) none (rw left at c.loop.invariant)

pub loop-preserved : goal.loop-preserved
loop-preserved g c =
    let left : c.args.count - c.loop.counter ≡ suc (c.args.count - (c.loop.counter + 1)) = omega (arith, c.loop-test.true) in
    let read : first_command c.loop.rest.now ≡ Some (c.in-Some.command, c.in-Some.after.now) = sym c.in_ok-command.ensures.exact ∙ ap (option_map (λ x. (x.0, x.1.now))) c.in-Some.is in
    rw c.in_ok-push.ensures.items
    (commands_more c.loop.commands.items (c.args.count - (c.loop.counter + 1)) c.loop.rest.now c.in-Some.after.now c.in-Some.command
    (commands_in c.args.count c.args.bytes.now) read (rw left at c.loop.invariant))

pub returns-then-is_empty : goal.returns-then-is_empty
returns-then-is_empty g c =
    let left : c.args.count - c.loop.counter ≡ 0 = omega (arith, c.loop-test.false) in
    let none : length c.loop.rest.now ≡ 0 = search rules in
    commands_end c.loop.commands.items c.loop.rest.now (commands_in c.args.count c.args.bytes.now) none (rw left at c.loop.invariant)

pub returns : goal.returns
returns g c =
    let left : c.args.count - c.loop.counter ≡ 0 = omega (arith, c.loop-test.false) in
    let some : length c.loop.rest.now ≢ 0 = search rules in
    commands_past c.loop.commands.items c.loop.rest.now (commands_in c.args.count c.args.bytes.now) some (rw left at c.loop.invariant)
