use Rattle.std.proofs.Common.{◌≡◌, ◌∙◌, ◌<◌, ◌^◌, ◌++◌, List, ℕ, ap, rules, arith}
use Rattle.std.specs.Int.{bytes_high_first}
use Rattle.command_bytes.specs.Fields.{big}
use Rattle.command_bytes.specs.Text.{tag_of}
use Rattle.command_bytes.proofs.Putting.{head_bytes}
use Rattle.command_bytes.proofs.encoding.head_of.Goals as goal

pub returns : goal.returns
returns g c =
    let station = c.to_be_bytes-station.ensures ∙ ap (bytes_high_first 2) c.number.ensures.value in
    let sequence = c.to_be_bytes-sequence.ensures ∙ ap (bytes_high_first 4) c.number-2.ensures.value in
    let moment = c.to_be_bytes-moment.ensures ∙ ap (bytes_high_first 4) c.number-3.ensures.value in
    let small : c.tag.result < 2 ^ 8 = search rules in
    let own = c.command.inside in
    rw (station, sequence, moment) (head_bytes own.station own.sequence own.moment c.tag.result (omega (arith, small))
    ∙ ap (λ (t : ℕ). big 2 own.station ++ big 4 own.sequence ++ big 4 own.moment ++ big 1 t) c.tag.ensures
    ∙ ap (λ asked. big 2 asked.station ++ big 4 asked.sequence ++ big 4 asked.moment ++ big 1 (tag_of asked.body)) c.command.view_is)
