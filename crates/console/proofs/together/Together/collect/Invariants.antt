use Rattle.std.proofs.Common.{◌≤◌, length, take}
use Rattle.std.specs.Prelude.{vec_len}
use Rattle.console.specs.Runs.{speaker_of}
use Rattle.console.specs.Inside.Together.{AreLines}
use Rattle.console.proofs.together.Together.collect.Given as goal

abbrev pub invariant-loop : goal.invariant-loop
invariant-loop g l = record {
  within : l.at ≤ length l.text;
  lines : AreLines (speaker_of l.terms) (take l.at l.text) l.self.commands.items;
  count : vec_len l.self.commands ≤ l.counter;
  many : length l.self.commands.items ≤ l.at;
  few : length l.self.commands.items ≤ l.counter;
}
