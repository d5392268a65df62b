-- A PDU from a radio that is cut off: bits are missing.
use Rattle.std.proofs.Common.{◌≡◌, ℕ, Bool, true, false, cond, List, [], ◌∷◌, ◌++◌, length, Result, Ok, Err, refl, sym, ap, ◌∙◌, arith, eqb, inl, inr}
use Rattle.std.proofs.lemmas.List.{append-nil}
use Rattle.mm_pdus.specs.declared.fault.MmFault.{MmFault}
use Rattle.mm_pdus.specs.declared.fault.MmFault.TheVariants.{Short, UnknownType}
use Rattle.mm_pdus.specs.declared.update.LocationUpdateType.{LocationUpdateType}
use Rattle.mm_pdus.specs.declared.group.GroupUp.{GroupUp}
use Rattle.mm_pdus.specs.declared.uplink.MmUp.{MmUp}
use Rattle.mm_pdus.specs.declared.uplink.MmUp.TheVariants.{Demand, Detach, Groups}
use Rattle.mm_pdus.specs.Values.{update_of, mode_of}
use Rattle.mm_pdus.specs.Uplink.{detach_widths, demand_widths, SpellsUp}
use Rattle.mm_pdus.specs.Reading.{◌>>=◌, known, bit_at, field_at, optional_at, extension_at}
use Rattle.mm_pdus.specs.GroupReading.{group_up_at}
use Rattle.mm_pdus.specs.UplinkReading.{join_groups, all_groups_at, groups_up_at, detach_at, demand_at, up_at, reading_up}
use Rattle.mm_pdus.proofs.Steps.{ok_is}
use Rattle.mm_pdus.proofs.CutLaws.{Cut, on, value_on, cut_bind, same_bind, field_cut, bit_cut, optional_cut, elements_cut, extension_cut, whole_missing}
use Rattle.mm_pdus.proofs.UplinkLaws.{up_again}

module _ (more : List Bool) where
  all_groups_cut : (bits : List Bool) (x : List GroupUp × List Bool) → all_groups_at group_up_at (bits ++ more) ≡ Ok x → Cut (value_on more) (all_groups_at group_up_at bits) x
  unfolding all_groups_at
  all_groups_cut [] x e = inl refl
  all_groups_cut (false ∷ bits) x e = inr (([], bits), refl, sym (ok_is ([], bits ++ more) x e))
  all_groups_cut (true ∷ bits) x e = elements_cut more (join_groups group_up_at) (length bits) (length (bits ++ more)) [] bits x (omega arith) e

  module _ {A : Type 0} where
    detach_cut : (bits : List Bool) (x : MmUp A × List Bool) → detach_at (bits ++ more) ≡ Ok x → Cut (value_on more) (detach_at bits) x
    unfolding detach_at
    detach_cut bits x e =
        cut_bind (on more) (value_on more) (extension_at detach_widths bits) (extension_at detach_widths (bits ++ more)) (λ rest. Ok (Detach, rest))
        (λ rest. Ok (Detach, rest)) x (extension_cut more detach_widths bits)
        (λ y is h. inr ((Detach, y), refl, sym (ok_is (Detach, y ++ more) x h))) e

    demand_cut : (bits : List Bool) (x : MmUp A × List Bool) → demand_at (bits ++ more) ≡ Ok x → Cut (value_on more) (demand_at bits) x
    unfolding demand_at
    demand_cut bits x e =
        let third : LocationUpdateType → List Bool → Result (MmUp A × List Bool) MmFault = λ update rest. extension_at demand_widths rest >>= λ rest. Ok (Demand update, rest) in
        let second : LocationUpdateType → Bool × List Bool → Result (MmUp A × List Bool) MmFault = λ update append. optional_at 10 append.1 >>= third update in
        let named : List Bool → LocationUpdateType → Result (MmUp A × List Bool) MmFault = λ bits update. bit_at bits >>= second update in
        let first : ℕ × List Bool → Result (MmUp A × List Bool) MmFault = λ number. known (update_of number.0) >>= named number.1 in
        cut_bind (value_on more) (value_on more) (field_at 3 bits) (field_at 3 (bits ++ more)) first first x (field_cut more 3 bits) (λ n is h.
        same_bind (value_on more) (known (update_of n.0)) (named n.1) (named (n.1 ++ more)) x (λ u is h.
        cut_bind (value_on more) (value_on more) (bit_at n.1) (bit_at (n.1 ++ more)) (second u) (second u) x (bit_cut more n.1) (λ a is h.
        cut_bind (on more) (value_on more) (optional_at 10 a.1) (optional_at 10 (a.1 ++ more)) (third u) (third u) x (optional_cut more 10 a.1) (λ y is h.
        cut_bind (on more) (value_on more) (extension_at demand_widths y) (extension_at demand_widths (y ++ more)) (λ rest. Ok (Demand u, rest))
        (λ rest. Ok (Demand u, rest)) x (extension_cut more demand_widths y) (λ z is h.
        inr ((Demand u, z), refl, sym (ok_is (Demand u, z ++ more) x h))) h) h) h) h) e

    groups_cut : (bits : List Bool) (x : MmUp A × List Bool) → groups_up_at group_up_at (bits ++ more) ≡ Ok x → Cut (value_on more) (groups_up_at group_up_at bits) x
    unfolding groups_up_at
    groups_cut bits x e =
        let third : Bool → List GroupUp × List Bool → Result (MmUp A × List Bool) MmFault = λ mode items. Ok (Groups (mode_of mode) items.0, items.1) in
        let second : Bool × List Bool → Result (MmUp A × List Bool) MmFault = λ mode. all_groups_at group_up_at mode.1 >>= third mode.0 in
        let first : Bool × List Bool → Result (MmUp A × List Bool) MmFault = λ report. bit_at report.1 >>= second in
        cut_bind (value_on more) (value_on more) (bit_at bits) (bit_at (bits ++ more)) first first x (bit_cut more bits) (λ r is h.
        cut_bind (value_on more) (value_on more) (bit_at r.1) (bit_at (r.1 ++ more)) second second x (bit_cut more r.1) (λ m is h.
        cut_bind (value_on more) (value_on more) (all_groups_at group_up_at m.1) (all_groups_at group_up_at (m.1 ++ more)) (third m.0) (third m.0) x (all_groups_cut m.1) (λ y is h.
        inr ((Groups (mode_of m.0) y.0, y.1), refl, sym (ok_is (Groups (mode_of m.0) y.0, y.1 ++ more) x h))) h) h) e

    up_by : (one two seven : Bool) (bits : List Bool) (x : MmUp A × List Bool)
        → cond one (detach_at (bits ++ more)) (cond two (demand_at (bits ++ more)) (cond seven (groups_up_at group_up_at (bits ++ more)) (Err UnknownType))) ≡ Ok x
        → Cut (value_on more) (cond one (detach_at bits) (cond two (demand_at bits) (cond seven (groups_up_at group_up_at bits) (Err UnknownType)))) x
    up_by true two seven bits x e = detach_cut bits x e
    up_by false true seven bits x e = demand_cut bits x e
    up_by false false true bits x e = groups_cut bits x e
    up_by false false false bits x e = absurd cc

    up_cut : (bits : List Bool) (x : MmUp A × List Bool) → up_at group_up_at (bits ++ more) ≡ Ok x → Cut (value_on more) (up_at group_up_at bits) x
    unfolding up_at
    up_cut bits x e =
        let kind_of : ℕ × List Bool → Result (MmUp A × List Bool) MmFault = λ kind.
        cond (eqb kind.0 1) (detach_at kind.1)
        (cond (eqb kind.0 2) (demand_at kind.1) (cond (eqb kind.0 7) (groups_up_at group_up_at kind.1) (Err UnknownType))) in
        cut_bind (value_on more) (value_on more) (field_at 4 bits) (field_at 4 (bits ++ more)) kind_of kind_of x (field_cut more 4 bits) (λ y is h. up_by (eqb y.0 1) (eqb y.0 2) (eqb y.0 7) y.1 x h) e

pub missing : {A : Type 0} (p : MmUp A) (bits rest : List Bool) (b : Bool) → SpellsUp p (bits ++ b ∷ rest) → reading_up {A = A} bits ≡ Err Short
unfolding reading_up
missing p bits rest b spells =
    whole_missing (up_at group_up_at bits) p b rest
    (up_cut (b ∷ rest) bits (p, []) (ap (up_at group_up_at) (sym (append-nil (bits ++ b ∷ rest))) ∙ up_again p (bits ++ b ∷ rest) [] spells))
