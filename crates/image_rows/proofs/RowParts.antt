-- The two laws of each kind of row: what is read is its text, in its range, and its text is read again.
use Rattle.std.proofs.Common.{◌≡◌, ℕ, zero, suc, ◌/◌, ◌%◌, ◌^◌, ◌<◌, Bool, true, false, cond, leb, ltb, eqb, List, [], ◌∷◌, ◌++◌, length, Option, Some, None, refl, sym, ap, subst, ◌∙◌, arith}
use Rattle.std.specs.Prelude.{◌&&◌}
use Rattle.std.specs.List.{All, flat_map}
use Rattle.std.proofs.lemmas.Bool.{eqb-true, leb-true, ltb-true, le-leb, lt-ltb}
use Rattle.std.proofs.lemmas.List.Elements.{All-nil, All-cons, All-head, All-tail}
use Rattle.base.proofs.Bools.{both_true, and_is_true}
use Rattle.base.proofs.Options.{some_is}
use Rattle.mm_pdus.specs.declared.lifetime.Lifetime.{Lifetime}
use Rattle.mm_pdus.specs.declared.lifetime.Lifetime.TheVariants.{NotNeeded, NextItsiAttach, NotAllowedAtNextItsiAttach, NextLocationUpdate}
use Rattle.mm_pdus.specs.Values.{lifetime_number, lifetime_of}
use Rattle.group_attach.specs.Attached.{Usage}
use Rattle.identity.specs.Packed.{AreBytes}
use Rattle.command_bytes.specs.Fields.{◌>>=◌, big, number_at}
use Rattle.command_bytes.specs.Reading.{Read}
use Rattle.command_bytes.proofs.Numbers.{number_small, number_again}
use Rattle.command_bytes.proofs.Steps.{Takes, takes_both, bind_some, some_where, then_again, last_again}
use Rattle.command_bytes.proofs.PartLaws.{number_read, lifetime_is, lifetime_back}
use Rattle.image_rows.specs.Rows.{Header, HeaderInRange, Group, GroupInRange, last_epoch}
use Rattle.image_rows.specs.RowText.{header_text, present_number, usage_number, group_text}
use Rattle.image_rows.specs.RowReading.{header_at, present_of, usage_of, group_at, groups_at}

-- ---- the header

served_step : ℕ → ℕ → ℕ → ℕ → ℕ → ℕ × List ℕ → Read Header
served_step epoch count rules radios mail served =
    cond (ltb 0 epoch && leb epoch last_epoch)
    (Some (record { epoch = epoch; count = count; rules = rules; radios = radios; mail = mail; served = served.0 }, served.1)) None

mail_step : ℕ → ℕ → ℕ → ℕ → ℕ × List ℕ → Read Header
mail_step epoch count rules radios mail = number_at 4 mail.1 >>= served_step epoch count rules radios mail.0

radios_step : ℕ → ℕ → ℕ → ℕ × List ℕ → Read Header
radios_step epoch count rules radios = number_at 4 radios.1 >>= mail_step epoch count rules radios.0

rules_step : ℕ → ℕ → ℕ × List ℕ → Read Header
rules_step epoch count rules = number_at 4 rules.1 >>= radios_step epoch count rules.0

count_step : ℕ → ℕ × List ℕ → Read Header
count_step epoch count = number_at 4 count.1 >>= rules_step epoch count.0

epoch_step : ℕ × List ℕ → Read Header
epoch_step epoch = number_at 8 epoch.1 >>= count_step epoch.0

pub header_takes : (bytes : List ℕ) (x : Header × List ℕ) → AreBytes bytes → header_at bytes ≡ Some x → Takes bytes (header_text x.0) x.1 × HeaderInRange x.0
unfolding header_at epoch_step count_step rules_step radios_step mail_step served_step big
header_takes bytes x are e =
    let a = bind_some (number_at 8 bytes) epoch_step x e in
    let epoch : ℕ × List ℕ = a.0 in
    let first = number_read 8 bytes epoch are a.1 in
    let b = bind_some (number_at 8 epoch.1) (count_step epoch.0) x a.2 in
    let count : ℕ × List ℕ = b.0 in
    let second = number_read 8 epoch.1 count first.are b.1 in
    let c = bind_some (number_at 4 count.1) (rules_step epoch.0 count.0) x b.2 in
    let rules : ℕ × List ℕ = c.0 in
    let third = number_read 4 count.1 rules second.are c.1 in
    let d = bind_some (number_at 4 rules.1) (radios_step epoch.0 count.0 rules.0) x c.2 in
    let radios : ℕ × List ℕ = d.0 in
    let fourth = number_read 4 rules.1 radios third.are d.1 in
    let f = bind_some (number_at 4 radios.1) (mail_step epoch.0 count.0 rules.0 radios.0) x d.2 in
    let mail : ℕ × List ℕ = f.0 in
    let fifth = number_read 4 radios.1 mail fourth.are f.1 in
    let g = bind_some (number_at 4 mail.1) (served_step epoch.0 count.0 rules.0 radios.0 mail.0) x f.2 in
    let served : ℕ × List ℕ = g.0 in
    let sixth = number_read 4 mail.1 served fifth.are g.1 in
    let made : Header × List ℕ = (record { epoch = epoch.0; count = count.0; rules = rules.0; radios = radios.0; mail = mail.0; served = served.0 }, served.1) in
    let h = some_where (ltb 0 epoch.0 && leb epoch.0 last_epoch) (Some made) x g.2 in
    let range = both_true (ltb 0 epoch.0) (leb epoch.0 last_epoch) h.0 in
    subst (λ (y : Header × List ℕ). Takes bytes (header_text y.0) y.1 × HeaderInRange y.0) (some_is made x h.1) (
      takes_both (big 8 epoch.0) (big 8 count.0 ++ big 4 rules.0 ++ big 4 radios.0 ++ big 4 mail.0 ++ big 4 served.0) first
          (takes_both (big 8 count.0) (big 4 rules.0 ++ big 4 radios.0 ++ big 4 mail.0 ++ big 4 served.0) second
          (takes_both (big 4 rules.0) (big 4 radios.0 ++ big 4 mail.0 ++ big 4 served.0) third
          (takes_both (big 4 radios.0) (big 4 mail.0 ++ big 4 served.0) fourth
          (takes_both (big 4 mail.0) (big 4 served.0) fifth sixth)))),
      record {
        some = ltb-true _ _ range.0;
        most = leb-true _ _ range.1;
        count = number_small 8 epoch.1 count first.are b.1;
        rules = number_small 4 count.1 rules second.are c.1;
        radios = number_small 4 rules.1 radios third.are d.1;
        mail = number_small 4 radios.1 mail fourth.are f.1;
        served = number_small 4 mail.1 served fifth.are g.1;
      },
    )

pub header_again : (h : Header) (rest : List ℕ) → HeaderInRange h → header_at (header_text h ++ rest) ≡ Some (h, rest)
unfolding header_at epoch_step count_step rules_step radios_step mail_step served_step big
header_again h rest fits =
    let t5 = big 4 h.served in
    let t4 = big 4 h.mail ++ t5 in
    let t3 = big 4 h.radios ++ t4 in
    let t2 = big 4 h.rules ++ t3 in
    let t1 = big 8 h.count ++ t2 in
    let small : h.epoch < 256 ^ 8 = omega (arith, fits.most) in
    then_again (big 8 h.epoch) t1 rest (number_at 8) epoch_step h.epoch (h, rest) (number_again 8 h.epoch (t1 ++ rest) small)
    (then_again (big 8 h.count) t2 rest (number_at 8) (count_step h.epoch) h.count (h, rest) (number_again 8 h.count (t2 ++ rest) fits.count)
    (then_again (big 4 h.rules) t3 rest (number_at 4) (rules_step h.epoch h.count) h.rules (h, rest) (number_again 4 h.rules (t3 ++ rest) fits.rules)
    (then_again (big 4 h.radios) t4 rest (number_at 4) (radios_step h.epoch h.count h.rules) h.radios (h, rest) (number_again 4 h.radios (t4 ++ rest) fits.radios)
    (then_again (big 4 h.mail) t5 rest (number_at 4) (mail_step h.epoch h.count h.rules h.radios) h.mail (h, rest) (number_again 4 h.mail (t5 ++ rest) fits.mail)
    (last_again (served_step h.epoch h.count h.rules h.radios h.mail) (number_again 4 h.served rest fits.served)
    (ap (λ (b : Bool). cond b (Some (h, rest)) None) (and_is_true (ltb 0 h.epoch) (leb h.epoch last_epoch) (lt-ltb _ _ fits.some) (le-leb _ _ fits.most))))))))

-- ---- whether a radio is present

pub present_is : (n : ℕ) (present : Bool) → present_of n ≡ Some present → present_number present ≡ n
present_is n present e = by (eqb n 0) (eqb n 1) refl refl e
  where
    by : (a b : Bool) → eqb n 0 ≡ a → eqb n 1 ≡ b → cond a (Some false) (cond b (Some true) None) ≡ Some present → present_number present ≡ n
    by true b x y e = sym (ap present_number (some_is false present e)) ∙ sym (eqb-true n 0 x)
    by false true x y e = sym (ap present_number (some_is true present e)) ∙ sym (eqb-true n 1 y)
    by false false x y e = absurd cc

pub present_back : (present : Bool) → (present_of (present_number present) ≡ Some present) × (present_number present < 256 ^ 1)
present_back false = (refl, omega arith)
present_back true = (refl, omega arith)

-- ---- a group

usage_step : ℕ → Lifetime → Option Usage
usage_step number lifetime = Some (number / 4, lifetime)

usage_is : (n : ℕ) (usage : Usage) → usage_of n ≡ Some usage → (usage_number usage ≡ n) × (usage.0 < 2 ^ 3)
unfolding usage_step
usage_is n usage e =
    let a = some_where (ltb n 32) (lifetime_of (n % 4) >>= usage_step n) usage e in
    let small : n < 32 = ltb-true _ _ a.0 in
    let b = bind_some (lifetime_of (n % 4)) (usage_step n) usage a.1 in
    let last = lifetime_is (n % 4) b.0 b.1 in
    subst (λ (u : Usage). (usage_number u ≡ n) × (u.0 < 2 ^ 3)) (some_is (n / 4, b.0) usage b.2) (omega (arith, last), omega (arith, small))

lifetime_small : (lifetime : Lifetime) → lifetime_number lifetime < 4
lifetime_small NotNeeded = omega arith
lifetime_small NextItsiAttach = omega arith
lifetime_small NotAllowedAtNextItsiAttach = omega arith
lifetime_small NextLocationUpdate = omega arith

usage_back : (usage : Usage) → usage.0 < 2 ^ 3 → (usage_of (usage_number usage) ≡ Some usage) × (usage_number usage < 256 ^ 1)
unfolding usage_step
usage_back usage small =
    let low = lifetime_small usage.1 in
    let number = usage_number usage in
    let fits : number < 32 = omega (arith, low, small) in
    let class : number / 4 ≡ usage.0 = omega (arith, low) in
    let lifetime : number % 4 ≡ lifetime_number usage.1 = omega (arith, low) in
    let read : (lifetime_of (number % 4) >>= usage_step number) ≡ Some usage =
    last_again (usage_step number) (ap lifetime_of lifetime ∙ (lifetime_back usage.1).0) (ap (λ (n : ℕ). Some (n, usage.1)) class) in
    (ap (λ (b : Bool). cond b (lifetime_of (number % 4) >>= usage_step number) None) (lt-ltb _ _ fits) ∙ read, omega (arith, fits))

known_step : ℕ → List ℕ → Usage → Read Group
known_step gtsi rest usage = Some ((gtsi, usage), rest)

number_step : ℕ → ℕ × List ℕ → Read Group
number_step gtsi number = usage_of number.0 >>= known_step gtsi number.1

gtsi_step : ℕ × List ℕ → Read Group
gtsi_step gtsi = number_at 1 gtsi.1 >>= number_step gtsi.0

group_takes : (bytes : List ℕ) (x : Group × List ℕ) → AreBytes bytes → group_at bytes ≡ Some x → Takes bytes (group_text x.0) x.1 × GroupInRange x.0
unfolding group_at gtsi_step number_step known_step big
group_takes bytes x are e =
    let a = bind_some (number_at 6 bytes) gtsi_step x e in
    let gtsi : ℕ × List ℕ = a.0 in
    let first = number_read 6 bytes gtsi are a.1 in
    let b = bind_some (number_at 1 gtsi.1) (number_step gtsi.0) x a.2 in
    let number : ℕ × List ℕ = b.0 in
    let second = number_read 1 gtsi.1 number first.are b.1 in
    let c = bind_some (usage_of number.0) (known_step gtsi.0 number.1) x b.2 in
    let usage : Usage = c.0 in
    let is = usage_is number.0 usage c.1 in
    let named : Takes gtsi.1 (big 1 (usage_number usage)) number.1 = subst (λ (n : ℕ). Takes gtsi.1 (big 1 n) number.1) (sym is.0) second in
    subst (λ (y : Group × List ℕ). Takes bytes (group_text y.0) y.1 × GroupInRange y.0) (some_is ((gtsi.0, usage), number.1) x c.2)
    (takes_both (big 6 gtsi.0) (big 1 (usage_number usage)) first named, (number_small 6 bytes gtsi are a.1, is.1))

group_again : (g : Group) (rest : List ℕ) → GroupInRange g → group_at (group_text g ++ rest) ≡ Some (g, rest)
unfolding group_at gtsi_step number_step known_step big
group_again g rest fits =
    let back = usage_back g.1 fits.1 in
    then_again (big 6 g.0) (big 1 (usage_number g.1)) rest (number_at 6) gtsi_step g.0 (g, rest) (number_again 6 g.0 (big 1 (usage_number g.1) ++ rest) fits.0)
    (last_again (number_step g.0) (number_again 1 (usage_number g.1) rest back.1)
    (last_again (known_step g.0 rest) back.0 refl))

-- ---- groups

more_step : Group → List Group × List ℕ → Read (List Group)
more_step g gs = Some (g ∷ gs.0, gs.1)

one_step : ℕ → Group × List ℕ → Read (List Group)
one_step n g = groups_at n g.1 >>= more_step g.0

pub groups_take : (n : ℕ) (bytes : List ℕ) (x : List Group × List ℕ) → AreBytes bytes → groups_at n bytes ≡ Some x → Takes bytes (flat_map group_text x.0) x.1 × (length x.0 ≡ n) × All GroupInRange x.0
unfolding one_step more_step
groups_take zero bytes x are e =
    subst (λ (y : List Group × List ℕ). Takes bytes (flat_map group_text y.0) y.1 × (length y.0 ≡ 0) × All GroupInRange y.0) (some_is ([], bytes) x e)
    (record { is = refl; are = are }, refl, All-nil GroupInRange)
groups_take (suc n) bytes x are e =
    let a = bind_some (group_at bytes) (one_step n) x e in
    let g : Group × List ℕ = a.0 in
    let first = group_takes bytes g are a.1 in
    let b = bind_some (groups_at n g.1) (more_step g.0) x a.2 in
    let gs : List Group × List ℕ = b.0 in
    let rest = groups_take n g.1 gs first.0.are b.1 in
    subst (λ (y : List Group × List ℕ). Takes bytes (flat_map group_text y.0) y.1 × (length y.0 ≡ suc n) × All GroupInRange y.0) (some_is (g.0 ∷ gs.0, gs.1) x b.2)
    (takes_both (group_text g.0) (flat_map group_text gs.0) first.0 rest.0, ap suc rest.1, All-cons GroupInRange g.0 gs.0 first.1 rest.2)

pub groups_again : (gs : List Group) (rest : List ℕ) → All GroupInRange gs → groups_at (length gs) (flat_map group_text gs ++ rest) ≡ Some (gs, rest)
unfolding one_step more_step
groups_again [] rest all = refl
groups_again (g ∷ gs) rest all =
    then_again (group_text g) (flat_map group_text gs) rest group_at (one_step (length gs)) g (g ∷ gs, rest) (group_again g (flat_map group_text gs ++ rest) (All-head GroupInRange g gs all))
    (last_again (more_step g) (groups_again gs rest (All-tail GroupInRange g gs all)) refl)
