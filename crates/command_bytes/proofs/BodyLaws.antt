-- The two laws of a body, and of a command.
use Rattle.std.proofs.Common.{◌≡◌, ℕ, ◌^◌, ◌<◌, ◌≤◌, Bool, true, false, cond, eqb, List, ◌++◌, length, Some, None, refl, sym, ap, subst, arith}
use Rattle.std.proofs.lemmas.Bool.{eqb-true, ne_eqb}
use Rattle.base.proofs.Numbers.{not_zero}
use Rattle.base.proofs.Options.{some_is}
use Rattle.registration.specs.declared.rule.Rule.{Rule}
use Rattle.mailbox.specs.declared.key.Key.{Key}
use Rattle.centre_core.specs.declared.command.Body.{Body}
use Rattle.centre_core.specs.declared.command.Body.TheVariants.{RuleSet, RuleClear, Mm, Sds, GroupSds, Sent, Expire, Delete}
use Rattle.centre_core.specs.Asked.{Asked}
use Rattle.identity.specs.BitsText.{most_bits}
use Rattle.centre_core.specs.Ranges.{BodyInRange}
use Rattle.identity.specs.Packed.{AreBytes}
use Rattle.command_bytes.specs.Fields.{◌>>=◌, big, number_at}
use Rattle.command_bytes.specs.Text.{prefix_text, rule_text, bits_text, tag_of, body_text, command_text, IsCommand}
use Rattle.command_bytes.specs.Reading.{Read, prefix_at, rule_at, bits_at, area_at, key_at, rule_set_at, rule_clear_at, mm_at, sds_at, sent_at, delete_at, group_sds_at, body_at, first_command}
use Rattle.command_bytes.proofs.Numbers.{number_small, number_again}
use Rattle.command_bytes.proofs.Steps.{Takes, takes_both, bind_some, some_unless, then_again, last_again}
use Rattle.command_bytes.proofs.PartLaws.{number_read, prefix_takes, prefix_again, bits_takes, bits_again, area_takes, area_again, rule_takes, rule_again, key_takes, key_again}

module _ {A : Type 0} where
  -- what was read of a body after a tag
  record Reads (tag : ℕ) (bytes : List ℕ) (x : Body A × List ℕ) : Type 0 where
    pub named : tag_of x.0 ≡ tag
    pub takes : Takes bytes (body_text x.0) x.1
    pub fits : BodyInRange x.0

  -- ---- what is read is its text

  rule_set_takes : (bytes : List ℕ) (x : Body A × List ℕ) → AreBytes bytes → rule_set_at bytes ≡ Some x → Reads 1 bytes x
  unfolding rule_set_at
  rule_set_takes bytes x are e =
      let a = bind_some (prefix_at bytes) (λ prefix. rule_at prefix.1 >>= λ rule. Some (RuleSet prefix.0 rule.0, rule.1)) x e in
      let prefix : List Bool × List ℕ = a.0 in
      let first = prefix_takes bytes prefix are a.1 in
      let b = bind_some (rule_at prefix.1) (λ rule. Some (RuleSet prefix.0 rule.0, rule.1)) x a.2 in
      let rule : Rule × List ℕ = b.0 in
      let second = rule_takes prefix.1 rule first.0.are b.1 in
      subst (λ (y : Body A × List ℕ). Reads 1 bytes y) (some_is (RuleSet prefix.0 rule.0, rule.1) x b.2)
      (record { named = refl; takes = takes_both (prefix_text prefix.0) (rule_text rule.0) first.0 second.0; fits = (first.1, second.1) })

  rule_clear_takes : (bytes : List ℕ) (x : Body A × List ℕ) → AreBytes bytes → rule_clear_at bytes ≡ Some x → Reads 2 bytes x
  unfolding rule_clear_at
  rule_clear_takes bytes x are e =
      let a = bind_some (prefix_at bytes) (λ prefix. Some (RuleClear prefix.0, prefix.1)) x e in
      let prefix : List Bool × List ℕ = a.0 in
      let first = prefix_takes bytes prefix are a.1 in
      subst (λ (y : Body A × List ℕ). Reads 2 bytes y) (some_is (RuleClear prefix.0, prefix.1) x a.2) (record { named = refl; takes = first.0; fits = first.1 })

  mm_takes : (bytes : List ℕ) (x : Body A × List ℕ) → AreBytes bytes → mm_at bytes ≡ Some x → Reads 3 bytes x
  unfolding mm_at big
  mm_takes bytes x are e =
      let a = bind_some (number_at 6 bytes) (λ itsi. area_at itsi.1 >>= λ area. bits_at area.1 >>= λ pdu. Some (Mm itsi.0 area.0 pdu.0, pdu.1)) x e in
      let itsi : ℕ × List ℕ = a.0 in
      let first = number_read 6 bytes itsi are a.1 in
      let b = bind_some (area_at itsi.1) (λ area. bits_at area.1 >>= λ pdu. Some (Mm itsi.0 area.0 pdu.0, pdu.1)) x a.2 in
      let area : ℕ × List ℕ = b.0 in
      let second = area_takes itsi.1 area first.are b.1 in
      let c = bind_some (bits_at area.1) (λ pdu. Some (Mm itsi.0 area.0 pdu.0, pdu.1)) x b.2 in
      let pdu : List Bool × List ℕ = c.0 in
      let third = bits_takes area.1 pdu second.0.are c.1 in
      subst (λ (y : Body A × List ℕ). Reads 3 bytes y) (some_is (Mm itsi.0 area.0 pdu.0, pdu.1) x c.2)
      (record {
        named = refl;
        takes =
            takes_both (big 6 itsi.0) (big 2 area.0 ++ bits_text pdu.0) first (takes_both (big 2 area.0) (bits_text pdu.0) second.0 third.0);
        fits =
            (number_small 6 bytes itsi are a.1, second.1, third.1);
      })

  -- two identities and a PDU
  three_takes : (make : ℕ → ℕ → List Bool → Body A) (tag : ℕ) (bytes : List ℕ) (x : Body A × List ℕ)
      → ((source other : ℕ) (pdu : List Bool) → (tag_of (make source other pdu) ≡ tag) × (body_text (make source other pdu) ≡ big 6 source ++ (big 6 other ++ bits_text pdu)))
      → ((source other : ℕ) (pdu : List Bool) → source < 2 ^ 48 → other < 2 ^ 48 → length pdu ≤ most_bits → BodyInRange (make source other pdu))
      → AreBytes bytes → (number_at 6 bytes >>= λ source. number_at 6 source.1 >>= λ other. bits_at other.1 >>= λ pdu. Some (make source.0 other.0 pdu.0, pdu.1)) ≡ Some x → Reads tag bytes x
  three_takes make tag bytes x is fits are e =
      let a = bind_some (number_at 6 bytes) (λ source. number_at 6 source.1 >>= λ other. bits_at other.1 >>= λ pdu. Some (make source.0 other.0 pdu.0, pdu.1)) x e in
      let source : ℕ × List ℕ = a.0 in
      let first = number_read 6 bytes source are a.1 in
      let b = bind_some (number_at 6 source.1) (λ other. bits_at other.1 >>= λ pdu. Some (make source.0 other.0 pdu.0, pdu.1)) x a.2 in
      let other : ℕ × List ℕ = b.0 in
      let second = number_read 6 source.1 other first.are b.1 in
      let c = bind_some (bits_at other.1) (λ pdu. Some (make source.0 other.0 pdu.0, pdu.1)) x b.2 in
      let pdu : List Bool × List ℕ = c.0 in
      let third = bits_takes other.1 pdu second.are c.1 in
      let text : Takes bytes (big 6 source.0 ++ (big 6 other.0 ++ bits_text pdu.0)) pdu.1 =
      takes_both (big 6 source.0) (big 6 other.0 ++ bits_text pdu.0) first (takes_both (big 6 other.0) (bits_text pdu.0) second third.0) in
      subst (λ (y : Body A × List ℕ). Reads tag bytes y) (some_is (make source.0 other.0 pdu.0, pdu.1) x c.2)
      (record {
        named = (is source.0 other.0 pdu.0).0;
        takes = subst (λ (t : List ℕ). Takes bytes t pdu.1) (sym (is source.0 other.0 pdu.0).1) text;
        fits = fits source.0 other.0 pdu.0 (number_small 6 bytes source are a.1) (number_small 6 source.1 other first.are b.1) third.1;
      })

  sds_takes : (bytes : List ℕ) (x : Body A × List ℕ) → AreBytes bytes → sds_at bytes ≡ Some x → Reads 4 bytes x
  unfolding sds_at big
  sds_takes bytes x are e = three_takes Sds 4 bytes x (λ source other pdu. (refl, refl)) (λ source other pdu low high few. (low, high, few)) are e

  group_sds_takes : (bytes : List ℕ) (x : Body A × List ℕ) → AreBytes bytes → group_sds_at bytes ≡ Some x → Reads 8 bytes x
  unfolding group_sds_at big
  group_sds_takes bytes x are e = three_takes GroupSds 8 bytes x (λ source other pdu. (refl, refl)) (λ source other pdu low high few. (low, high, few)) are e

  sent_takes : (bytes : List ℕ) (x : Body A × List ℕ) → AreBytes bytes → sent_at bytes ≡ Some x → Reads 5 bytes x
  unfolding sent_at
  sent_takes bytes x are e =
      let a = bind_some (key_at bytes) (λ key. Some (Sent key.0, key.1)) x e in
      let key : Key × List ℕ = a.0 in
      let first = key_takes bytes key are a.1 in
      subst (λ (y : Body A × List ℕ). Reads 5 bytes y) (some_is (Sent key.0, key.1) x a.2) (record { named = refl; takes = first.0; fits = first.1 })

  delete_takes : (bytes : List ℕ) (x : Body A × List ℕ) → AreBytes bytes → delete_at bytes ≡ Some x → Reads 7 bytes x
  unfolding delete_at
  delete_takes bytes x are e =
      let a = bind_some (key_at bytes) (λ key. Some (Delete key.0, key.1)) x e in
      let key : Key × List ℕ = a.0 in
      let first = key_takes bytes key are a.1 in
      subst (λ (y : Body A × List ℕ). Reads 7 bytes y) (some_is (Delete key.0, key.1) x a.2) (record { named = refl; takes = first.0; fits = first.1 })

  expire_takes : (bytes : List ℕ) (x : Body A × List ℕ) → AreBytes bytes → Some (Expire, bytes) ≡ Some x → Reads 6 bytes x
  expire_takes bytes x are e = subst (λ (y : Body A × List ℕ). Reads 6 bytes y) (some_is (Expire, bytes) x e) (record { named = refl; takes = record { is = refl; are = are }; fits = tt })

  -- a case of the tags
  on_tag : (n tag : ℕ) (bytes : List ℕ) (x : Body A × List ℕ) (here others : Read (Body A)) → (here ≡ Some x → Reads n bytes x) →
      (others ≡ Some x → Reads tag bytes x) → cond (eqb tag n) here others ≡ Some x → Reads tag bytes x
  on_tag n tag bytes x here others found later e = by (eqb tag n) refl e
    where
      by : (b : Bool) → eqb tag n ≡ b → cond b here others ≡ Some x → Reads tag bytes x
      by true is e = subst (λ (k : ℕ). Reads k bytes x) (sym (eqb-true tag n is)) (found e)
      by false is e = later e

  body_takes : (tag : ℕ) (bytes : List ℕ) (x : Body A × List ℕ) → AreBytes bytes → body_at tag bytes ≡ Some x → Reads tag bytes x
  unfolding body_at
  body_takes tag bytes x are e =
      on_tag 1 tag bytes x (rule_set_at bytes) _ (rule_set_takes bytes x are)
      (on_tag 2 tag bytes x (rule_clear_at bytes) _ (rule_clear_takes bytes x are)
      (on_tag 3 tag bytes x (mm_at bytes) _ (mm_takes bytes x are)
      (on_tag 4 tag bytes x (sds_at bytes) _ (sds_takes bytes x are)
      (on_tag 5 tag bytes x (sent_at bytes) _ (sent_takes bytes x are)
      (on_tag 6 tag bytes x (Some (Expire, bytes)) _ (expire_takes bytes x are)
      (on_tag 7 tag bytes x (delete_at bytes) _ (delete_takes bytes x are)
      (on_tag 8 tag bytes x (group_sds_at bytes) None (group_sds_takes bytes x are) (λ e. absurd cc)))))))) e

  -- ---- each text is read again

  abbrev pdu_step : (ℕ → ℕ → List Bool → Body A) → ℕ → ℕ → List Bool × List ℕ → Read (Body A)
  pdu_step make source other pdu = Some (make source other pdu.0, pdu.1)

  abbrev other_step : (ℕ → ℕ → List Bool → Body A) → ℕ → ℕ × List ℕ → Read (Body A)
  other_step make source other = bits_at other.1 >>= pdu_step make source other.0

  abbrev source_step : (ℕ → ℕ → List Bool → Body A) → ℕ × List ℕ → Read (Body A)
  source_step make source = number_at 6 source.1 >>= other_step make source.0

  three_again : (make : ℕ → ℕ → List Bool → Body A) (source other : ℕ) (pdu : List Bool) (rest : List ℕ) → source < 2 ^ 48 → other < 2 ^ 48 → length pdu ≤ most_bits
      → (number_at 6 ((big 6 source ++ (big 6 other ++ bits_text pdu)) ++ rest) >>= source_step make) ≡ Some (make source other pdu, rest)
  three_again make source other pdu rest low high few =
      then_again (big 6 source) (big 6 other ++ bits_text pdu) rest (number_at 6) (source_step make) source (make source other pdu, rest)
      (number_again 6 source ((big 6 other ++ bits_text pdu) ++ rest) low)
      (then_again (big 6 other) (bits_text pdu) rest (number_at 6) (other_step make source) other (make source other pdu, rest)
      (number_again 6 other (bits_text pdu ++ rest) high)
      (last_again (pdu_step make source other) (bits_again pdu rest few) refl))

  body_again : (body : Body A) (rest : List ℕ) → BodyInRange body → body_at (tag_of body) (body_text body ++ rest) ≡ Some (body, rest)
  unfolding body_at rule_set_at rule_clear_at mm_at sds_at sent_at delete_at group_sds_at big
  body_again (RuleSet prefix rule) rest fits =
      then_again (prefix_text prefix) (rule_text rule) rest prefix_at (λ prefix. rule_at prefix.1 >>= λ rule. Some (RuleSet prefix.0 rule.0, rule.1)) prefix (RuleSet prefix rule, rest)
      (prefix_again prefix (rule_text rule ++ rest) fits.0)
      (last_again (λ rule. Some (RuleSet prefix rule.0, rule.1)) (rule_again rule rest fits.1) refl)
  body_again (RuleClear prefix) rest fits = last_again (λ prefix. Some (RuleClear prefix.0, prefix.1)) (prefix_again prefix rest fits) refl
  body_again (Mm itsi area pdu) rest fits =
      then_again (big 6 itsi) (big 2 area ++ bits_text pdu) rest (number_at 6) (λ itsi. area_at itsi.1 >>= λ area. bits_at area.1 >>= λ pdu.
      Some (Mm itsi.0 area.0 pdu.0, pdu.1)) itsi (Mm itsi area pdu, rest)
      (number_again 6 itsi ((big 2 area ++ bits_text pdu) ++ rest) fits.0)
      (then_again (big 2 area) (bits_text pdu) rest area_at (λ area. bits_at area.1 >>= λ pdu. Some (Mm itsi area.0 pdu.0, pdu.1)) area (Mm itsi area pdu, rest)
      (area_again area (bits_text pdu ++ rest) fits.1)
      (last_again (λ pdu. Some (Mm itsi area pdu.0, pdu.1)) (bits_again pdu rest fits.2) refl))
  body_again (Sds source destination pdu) rest fits = three_again Sds source destination pdu rest fits.0 fits.1 fits.2
  body_again (Sent key) rest fits = last_again (λ key. Some (Sent key.0, key.1)) (key_again key rest fits) refl
  body_again Expire rest fits = refl
  body_again (Delete key) rest fits = last_again (λ key. Some (Delete key.0, key.1)) (key_again key rest fits) refl
  body_again (GroupSds source group pdu) rest fits = three_again GroupSds source group pdu rest fits.0 fits.1 fits.2

  -- ---- the whole

  tag_small : (body : Body A) → tag_of body < 256 ^ 1
  tag_small (RuleSet prefix rule) = omega arith
  tag_small (RuleClear prefix) = omega arith
  tag_small (Mm itsi area pdu) = omega arith
  tag_small (Sds source destination pdu) = omega arith
  tag_small (Sent key) = omega arith
  tag_small Expire = omega arith
  tag_small (Delete key) = omega arith
  tag_small (GroupSds source group pdu) = omega arith

  body_step : ℕ → ℕ → ℕ → Body A × List ℕ → Read (Asked A)
  body_step station sequence moment body = cond (eqb sequence 0) None (Some (record { station = station; sequence = sequence; moment = moment; body = body.0 }, body.1))

  tag_step : ℕ → ℕ → ℕ → ℕ × List ℕ → Read (Asked A)
  tag_step station sequence moment tag = body_at tag.0 tag.1 >>= body_step station sequence moment

  moment_step : ℕ → ℕ → ℕ × List ℕ → Read (Asked A)
  moment_step station sequence moment = number_at 1 moment.1 >>= tag_step station sequence moment.0

  sequence_step : ℕ → ℕ × List ℕ → Read (Asked A)
  sequence_step station sequence = number_at 4 sequence.1 >>= moment_step station sequence.0

  station_step : ℕ × List ℕ → Read (Asked A)
  station_step station = number_at 4 station.1 >>= sequence_step station.0

  pub command_takes : (bytes : List ℕ) (c : Asked A) (rest : List ℕ) → AreBytes bytes → first_command bytes ≡ Some (c, rest) → IsCommand c × (bytes ≡ command_text c ++ rest) × AreBytes rest
  unfolding first_command station_step sequence_step moment_step tag_step body_step command_text big
  command_takes bytes c rest are e =
      let a = bind_some (number_at 2 bytes) station_step (c, rest) e in
      let station : ℕ × List ℕ = a.0 in
      let first = number_read 2 bytes station are a.1 in
      let b = bind_some (number_at 4 station.1) (sequence_step station.0) (c, rest) a.2 in
      let sequence : ℕ × List ℕ = b.0 in
      let second = number_read 4 station.1 sequence first.are b.1 in
      let d = bind_some (number_at 4 sequence.1) (moment_step station.0 sequence.0) (c, rest) b.2 in
      let moment : ℕ × List ℕ = d.0 in
      let third = number_read 4 sequence.1 moment second.are d.1 in
      let f = bind_some (number_at 1 moment.1) (tag_step station.0 sequence.0 moment.0) (c, rest) d.2 in
      let tag : ℕ × List ℕ = f.0 in
      let fourth = number_read 1 moment.1 tag third.are f.1 in
      let g = bind_some (body_at tag.0 tag.1) (body_step station.0 sequence.0 moment.0) (c, rest) f.2 in
      let body : Body A × List ℕ = g.0 in
      let fifth = body_takes tag.0 tag.1 body fourth.are g.1 in
      let named : Takes moment.1 (big 1 (tag_of body.0)) tag.1 = subst (λ (n : ℕ). Takes moment.1 (big 1 n) tag.1) (sym fifth.named) fourth in
      let h = some_unless (eqb sequence.0 0) (Some (record { station = station.0; sequence = sequence.0; moment = moment.0; body = body.0 }, body.1)) (c, rest) g.2 in
      let above : 0 < sequence.0 = not_zero sequence.0 h.0 in
      let text = takes_both (big 2 station.0) (big 4 sequence.0 ++ (big 4 moment.0 ++ (big 1 (tag_of body.0) ++ body_text body.0))) first
      (takes_both (big 4 sequence.0) (big 4 moment.0 ++ (big 1 (tag_of body.0) ++ body_text body.0)) second
      (takes_both (big 4 moment.0) (big 1 (tag_of body.0) ++ body_text body.0) third
      (takes_both (big 1 (tag_of body.0)) (body_text body.0) named fifth.takes))) in
      subst (λ (y : Asked A × List ℕ). IsCommand y.0 × (bytes ≡ command_text y.0 ++ y.1) × AreBytes y.1)
      (some_is (record { station = station.0; sequence = sequence.0; moment = moment.0; body = body.0 }, body.1) (c, rest) h.1) (
        record {
          station = number_small 2 bytes station are a.1;
          range = record { above = above; sequence = number_small 4 station.1 sequence first.are b.1; moment = number_small 4 sequence.1 moment second.are d.1; body = fifth.fits };
        },
        text.is,
        text.are,
      )

  pub command_again : (c : Asked A) (rest : List ℕ) → IsCommand c → first_command (command_text c ++ rest) ≡ Some (c, rest)
  unfolding first_command station_step sequence_step moment_step tag_step body_step command_text big
  command_again c rest fits =
      let range = fits.range in
      let t4 = body_text c.body in
      let t3 = big 1 (tag_of c.body) ++ t4 in
      let t2 = big 4 c.moment ++ t3 in
      let t1 = big 4 c.sequence ++ t2 in
      let above : eqb c.sequence 0 ≡ false = ne_eqb c.sequence 0 (λ e. omega (arith, e, range.above)) in
      then_again (big 2 c.station) t1 rest (number_at 2) station_step c.station (c, rest) (number_again 2 c.station (t1 ++ rest) fits.station)
      (then_again (big 4 c.sequence) t2 rest (number_at 4) (sequence_step c.station) c.sequence (c, rest) (number_again 4 c.sequence (t2 ++ rest) range.sequence)
      (then_again (big 4 c.moment) t3 rest (number_at 4) (moment_step c.station c.sequence) c.moment (c, rest) (number_again 4 c.moment (t3 ++ rest) range.moment)
      (then_again (big 1 (tag_of c.body)) t4 rest (number_at 1) (tag_step c.station c.sequence c.moment) (tag_of c.body) (c, rest) (number_again 1 (tag_of c.body) (t4 ++ rest) (tag_small c.body))
      (last_again (body_step c.station c.sequence c.moment) (body_again c.body rest range.body)
      (ap (λ (b : Bool). cond b None (Some (c, rest))) above)))))
