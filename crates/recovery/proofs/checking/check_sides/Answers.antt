use Rattle.std.proofs.Common.{◌≡◌, ◌⊎◌, ◌∙◌, ℕ, List, Option, Some, None, Result, Ok, Err, ap, arith, inl, inr, refl, subst, sym, false}
use Rattle.std.proofs.lemmas.Result.{err_from_is_err_and}
use Rattle.sector_disk.specs.Disk.{View}
use Rattle.sector_disk.proofs.OnlyRead.{only_read_on}
use Rattle.checkpoint.specs.declared.layout.Layout.{Layout}
use Rattle.checkpoint.specs.declared.side.Side.{Side}
use Rattle.checkpoint.specs.declared.side.Side.TheVariants as side
use Rattle.recovery.specs.declared.checking.SideState.{SideState}
use Rattle.recovery.specs.declared.checking.SideState.TheVariants as state
use Rattle.recovery.specs.declared.fault.StoreFault.{StoreFault}
use Rattle.recovery.specs.declared.fault.StoreFault.TheVariants.{BadGeometry, Broken, Damaged, DiskFault, EpochsUsedUp, NoMemory, Unformatted, Unready}
use Rattle.recovery.specs.Checking.{IsCheckOf, IsDamagedAt, IsNoDamage, checked_in, damaged_sector, is_damaged, state_in, unless_damaged}
use Rattle.recovery.specs.Inside.Reads.{IsOfLabel}
use Rattle.recovery.specs.Label.{layout_in}
use Rattle.recovery.specs.Opening.{Fails}
use Rattle.recovery.proofs.checking.check_sides.Goals as goal

-- ---- a side that has a damaged sector, or none

is_there : (s : SideState) (at : ℕ) → damaged_sector s ≡ Some at → IsDamagedAt at s
is_there (state.Damaged epoch sector) at is = cc
is_there state.Unused at is = absurd cc
is_there (state.Whole figures) at is = absurd cc

is_whole : (s : SideState) → damaged_sector s ≡ None → is_damaged s ≡ false
is_whole (state.Damaged epoch sector) is = absurd cc
is_whole state.Unused is = refl
is_whole (state.Whole figures) is = refl

-- ---- the fault that is reported

-- that of reading side B, or damage to side A, where memory ran out
abbrev IsReported : StoreFault → Option ℕ → StoreFault → Type 0
IsReported told d fault = (told ≡ fault) ⊎ ((at : ℕ) × (told ≡ Damaged at) × (d ≡ Some at) × (fault ≡ NoMemory))

reports : (d : Option ℕ) (fault : StoreFault) → IsReported (unless_damaged d fault) d fault
reports None fault = inl refl
reports (Some at) Unformatted = inl refl
reports (Some at) BadGeometry = inl refl
reports (Some at) (Damaged s) = inl refl
reports (Some at) DiskFault = inl refl
reports (Some at) Broken = inl refl
reports (Some at) NoMemory = inr (at, refl, refl, refl)
reports (Some at) EpochsUsedUp = inl refl
reports (Some at) Unready = inl refl

-- memory is reported only where no damage was found
lacks : (d : Option ℕ) (fault : StoreFault) → unless_damaged d fault ≡ NoMemory → (fault ≡ NoMemory) × (d ≡ None)
lacks None fault is = (is, refl)
lacks (Some at) Unformatted is = absurd cc
lacks (Some at) BadGeometry is = absurd cc
lacks (Some at) (Damaged s) is = absurd cc
lacks (Some at) DiskFault is = absurd cc
lacks (Some at) Broken is = absurd cc
lacks (Some at) NoMemory is = absurd cc
lacks (Some at) EpochsUsedUp is = absurd cc
lacks (Some at) Unready is = absurd cc

-- damage is never one of reading a side
not_damage : (fault : StoreFault) (at : ℕ) → IsNoDamage fault → fault ≡ Damaged at → ⊥
not_damage Unformatted at may is = cc
not_damage BadGeometry at may is = cc
not_damage (Damaged s) at may is = may
not_damage DiskFault at may is = cc
not_damage Broken at may is = may
not_damage NoMemory at may is = cc
not_damage EpochsUsedUp at may is = may
not_damage Unready at may is = may

reported : (a : SideState) (fault : StoreFault) (d : Option ℕ) → d ≡ damaged_sector a → (told : StoreFault) → told ≡ unless_damaged d fault
    → IsReported told (damaged_sector a) fault
reported a fault d of_a told is =
    subst (λ f. IsReported f (damaged_sector a) fault) (sym (is ∙ ap (λ x. unless_damaged x fault) of_a)) (reports (damaged_sector a) fault)

damage_of_a : (a : SideState) (told fault : StoreFault) → IsReported told (damaged_sector a) fault → IsNoDamage fault → (at : ℕ) → told ≡ Damaged at → IsDamagedAt at a
damage_of_a a told fault (inl same) may at is = absurd (not_damage fault at may (sym same ∙ is))
damage_of_a a told fault (inr (s, damage, found, none)) may at is =
    let same : s ≡ at = cc in
    subst (λ x. IsDamagedAt x a) same (is_there a s found)

-- damage is reported only where memory ran out
gives_up : (told fault : StoreFault) (d : Option ℕ) → IsReported told d fault → IsNoDamage fault → (at : ℕ) → told ≡ Damaged at → fault ≡ NoMemory
gives_up told fault d (inl same) may at is = absurd (not_damage fault at may (sym same ∙ is))
gives_up told fault d (inr (s, damage, found, none)) may at is = none

-- ---- what a check of the image answers

-- a state that was found on a disk that was only read
of_read : (A : Type 0) (layout : Layout) (s : Side) (read image : List (List ℕ)) → read ≡ image → (found : SideState)
    → ◌≡◌ {A = Result SideState StoreFault} (Ok (state_in A layout s read)) (Ok found) → state_in A layout s image ≡ found
of_read A layout s read image same found is = let there : state_in A layout s read ≡ found = cc in subst (λ i. state_in A layout s i ≡ found) same there

module _ (A : Type 0) (image : List (List ℕ)) where
  -- it has no layout
  no_layout : (fault : StoreFault) → IsOfLabel fault → Fails fault (layout_in image) → IsCheckOf A image (Err fault)
  unfolding checked_in
  no_layout Unformatted may is = let none : layout_in image ≡ Err Unformatted = is in rw none refl
  no_layout BadGeometry may is = let none : layout_in image ≡ Err BadGeometry = is in rw none refl
  no_layout (Damaged at) may is = absurd may
  no_layout DiskFault may is = tt
  no_layout Broken may is = absurd may
  no_layout NoMemory may is = tt
  no_layout EpochsUsedUp may is = absurd may
  no_layout Unready may is = absurd may

  -- a side has this state, and was not read
  unread : (s : SideState) (fault : StoreFault) → IsNoDamage fault → Fails {Y = SideState} fault (Ok s) → IsCheckOf A image (Err fault)
  unread s Unformatted may is = absurd cc
  unread s BadGeometry may is = absurd cc
  unread s (Damaged at) may is = absurd may
  unread s DiskFault may is = tt
  unread s Broken may is = absurd may
  unread s NoMemory may is = tt
  unread s EpochsUsedUp may is = absurd may
  unread s Unready may is = absurd may

  module _ (layout : Layout) (label : layout_in image ≡ Ok layout) where
    -- both were read
    finds_both : (a b : SideState) → state_in A layout side.A image ≡ a → state_in A layout side.B image ≡ b
        → IsCheckOf A image (Ok (record { layout = layout; a = a; b = b }))
    unfolding checked_in
    finds_both a b is_a is_b = rw (label, is_a, is_b) refl

    -- side A is damaged
    finds_damage : (at : ℕ) → IsDamagedAt at (state_in A layout side.A image) → IsCheckOf A image (Err (Damaged at))
    unfolding checked_in
    finds_damage at damaged = (record { layout = layout; a = state_in A layout side.A image; b = state_in A layout side.B image }, rw label refl, damaged)

    -- side A was read, and then side B was not
    after_a : (a b : SideState) → state_in A layout side.A image ≡ a → (told fault : StoreFault) → IsReported told (damaged_sector a) fault → IsNoDamage fault
        → Fails {Y = SideState} fault (Ok b) → IsCheckOf A image (Err told)
    after_a a b is_a told fault (inl same) may is = subst (λ f. IsCheckOf A image (Err f)) (sym same) (unread b fault may is)
    after_a a b is_a told fault (inr (at, damage, found, none)) may is =
        subst (λ f. IsCheckOf A image (Err f)) (sym damage) (finds_damage at (subst (λ s. IsDamagedAt at s) (sym is_a) (is_there a at found)))

-- ---- goals

pub returns-in_err-layout-clause-exact : goal.returns-in_err-layout-clause-exact
returns-in_err-layout-clause-exact g c honest =
    let p = err_from_is_err_and c.from_residual.result c.from_residual.ensures.1 in
    rw (p.1, p.2) (no_layout g.row.A.Denot (g.D.Disk.view c.args.disk.now).reads c.in_err-layout.field-0.0 c.in_err-layout.ensures.reads.kinds (c.in_err-layout.ensures.exact honest))

pub returns-in_err-a-clause-memory : goal.returns-in_err-a-clause-memory
returns-in_err-a-clause-memory g c e honest =
    let p = err_from_is_err_and c.from_residual-in_err-a.result c.from_residual-in_err-a.ensures.1 in
    let is : c.in_err-a.field-0.0 ≡ NoMemory = cc in
    let only_read = c.in_ok-layout.ensures.reads.disk.only_read honest in
    record {
      layout = c.in_ok-layout.layout;
      label = c.in_ok-layout.ensures.exact honest;
      last = inl (rw (only_read.reads, c.in_ok-layout.ensures.calls) at (c.in_err-a.ensures.memory (ap Err is) only_read.honest));
    }

pub returns-in_err-a-clause-exact : goal.returns-in_err-a-clause-exact
returns-in_err-a-clause-exact g c honest =
    let image : List (List ℕ) = (g.D.Disk.view c.args.disk.now).reads in
    let p = err_from_is_err_and c.from_residual-in_err-a.result c.from_residual-in_err-a.ensures.1 in
    let only_read = c.in_ok-layout.ensures.reads.disk.only_read honest in
    rw (p.1, p.2) (unread g.row.A.Denot image _ c.in_err-a.field-0.0 c.in_err-a.ensures.reads.kinds (c.in_err-a.ensures.exact only_read.honest))

pub returns-in-Ok-clause-exact : goal.returns-in-Ok-clause-exact
returns-in-Ok-clause-exact g c honest =
    let old : View = g.D.Disk.view c.args.disk.now in
    let one : View = g.D.Disk.view c.read_layout.new.disk in
    let two : View = g.D.Disk.view c.check_side.new.disk in
    let first = c.in_ok-layout.ensures.reads.disk.only_read honest in
    let only_read = only_read_on old one two first (c.in_ok-a.ensures.reads.disk.only_read first.honest) in
    let is_a = of_read g.row.A.Denot c.in_ok-layout.layout side.A one.reads old.reads first.reads c.in_ok-a.a (c.in_ok-a.ensures.exact first.honest) in
    let is_b = of_read g.row.A.Denot c.in_ok-layout.layout side.B two.reads old.reads only_read.reads c.in-Ok.b (c.in-Ok.ensures.exact only_read.honest) in
    finds_both g.row.A.Denot old.reads c.in_ok-layout.layout (c.in_ok-layout.ensures.exact honest) c.in_ok-a.a c.in-Ok.b is_a is_b

pub returns-in-Err-clause-exact : goal.returns-in-Err-clause-exact
returns-in-Err-clause-exact g c honest =
    let old : View = g.D.Disk.view c.args.disk.now in
    let one : View = g.D.Disk.view c.read_layout.new.disk in
    let two : View = g.D.Disk.view c.check_side.new.disk in
    let first = c.in_ok-layout.ensures.reads.disk.only_read honest in
    let only_read = only_read_on old one two first (c.in_ok-a.ensures.reads.disk.only_read first.honest) in
    let is_a = of_read g.row.A.Denot c.in_ok-layout.layout side.A one.reads old.reads first.reads c.in_ok-a.a (c.in_ok-a.ensures.exact first.honest) in
    after_a g.row.A.Denot old.reads c.in_ok-layout.layout (c.in_ok-layout.ensures.exact honest) c.in_ok-a.a _ is_a c.unless_damaged.result c.in-Err.fault
    (reported c.in_ok-a.a c.in-Err.fault c.damaged_sector.result c.damaged_sector.ensures c.unless_damaged.result c.unless_damaged.ensures) c.in-Err.ensures.reads.kinds
    (c.in-Err.ensures.exact only_read.honest)

pub returns-in-Err-clause-memory : goal.returns-in-Err-clause-memory
returns-in-Err-clause-memory g c e honest =
    let old : View = g.D.Disk.view c.args.disk.now in
    let one : View = g.D.Disk.view c.read_layout.new.disk in
    let two : View = g.D.Disk.view c.check_side.new.disk in
    let first = c.in_ok-layout.ensures.reads.disk.only_read honest in
    let only_read = only_read_on old one two first (c.in_ok-a.ensures.reads.disk.only_read first.honest) in
    let is_a = of_read g.row.A.Denot c.in_ok-layout.layout side.A one.reads old.reads first.reads c.in_ok-a.a (c.in_ok-a.ensures.exact first.honest) in
    let is : c.unless_damaged.result ≡ NoMemory = cc in
    let none = lacks c.damaged_sector.result c.in-Err.fault (sym c.unless_damaged.ensures ∙ is) in
    record {
      layout = c.in_ok-layout.layout;
      label = c.in_ok-layout.ensures.exact honest;
      last = inr (record {
        a = subst (λ s. is_damaged s ≡ false) (sym is_a) (is_whole c.in_ok-a.a (sym c.damaged_sector.ensures ∙ none.1));
        earlier = two.calls;
        b = rw only_read.reads at (c.in-Err.ensures.memory (ap Err none.0) only_read.honest);
      });
    }

pub returns-in-Err-clause-gave_up : goal.returns-in-Err-clause-gave_up
returns-in-Err-clause-gave_up g c at e honest =
    let old : View = g.D.Disk.view c.args.disk.now in
    let one : View = g.D.Disk.view c.read_layout.new.disk in
    let two : View = g.D.Disk.view c.check_side.new.disk in
    let first = c.in_ok-layout.ensures.reads.disk.only_read honest in
    let only_read = only_read_on old one two first (c.in_ok-a.ensures.reads.disk.only_read first.honest) in
    let is : c.unless_damaged.result ≡ Damaged at = cc in
    let told = reported c.in_ok-a.a c.in-Err.fault c.damaged_sector.result c.damaged_sector.ensures c.unless_damaged.result c.unless_damaged.ensures in
    let none = gives_up c.unless_damaged.result c.in-Err.fault (damaged_sector c.in_ok-a.a) told c.in-Err.ensures.reads.kinds at is in
    record {
      layout = c.in_ok-layout.layout;
      label = c.in_ok-layout.ensures.exact honest;
      earlier = two.calls;
      b = rw only_read.reads at (c.in-Err.ensures.memory (ap Err none) only_read.honest);
    }

pub returns-in-Err-clause-reported_on_disk : goal.returns-in-Err-clause-reported_on_disk
returns-in-Err-clause-reported_on_disk g c at e =
    let is : c.unless_damaged.result ≡ Damaged at = cc in
    let told = reported c.in_ok-a.a c.in-Err.fault c.damaged_sector.result c.damaged_sector.ensures c.unless_damaged.result c.unless_damaged.ensures in
    let low = c.in_ok-a.ensures.on_disk at (damage_of_a c.in_ok-a.a c.unless_damaged.result c.in-Err.fault told c.in-Err.ensures.reads.kinds at is) in
    omega (arith, low, c.read_layout.ensures.reads.disk.sectors)

pub returns-in-Ok-clause-on_disk : goal.returns-in-Ok-clause-on_disk
returns-in-Ok-clause-on_disk g c at (inl damaged) =
    let low = c.in_ok-a.ensures.on_disk at damaged in
    omega (arith, low, c.read_layout.ensures.reads.disk.sectors)
returns-in-Ok-clause-on_disk g c at (inr damaged) =
    let low = c.in-Ok.ensures.on_disk at damaged in
    omega (arith, low, c.check_side.ensures.reads.disk.sectors, c.read_layout.ensures.reads.disk.sectors)
