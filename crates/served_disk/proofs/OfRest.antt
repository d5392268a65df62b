-- What a check says of a disk, for what is left of it.
use Rattle.std.proofs.Common.{◌≡◌, ◌≤◌, Bool, List, ℕ, Option, Some, MatchOption, Result, Ok, Err, ap, inl, inr, refl, subst, sym}
use Rattle.sector_disk.specs.Disk.{View}
use Rattle.checkpoint.specs.declared.layout.Layout.{Layout}
use Rattle.recovery.specs.declared.checking.Checked.{Checked}
use Rattle.recovery.specs.declared.rest.Rest.{Rest}
use Rattle.recovery.specs.declared.fault.StoreFault.{StoreFault}
use Rattle.recovery.specs.declared.fault.StoreFault.TheVariants.{BadGeometry, Broken, Damaged, DiskFault, EpochsUsedUp, NoMemory, Unformatted, Unready}
use Rattle.recovery.specs.Checking.{IsCheckOf, IsNoDamage, checked_in}
use Rattle.recovery.specs.Label.{layout_in}
use Rattle.recovery.specs.Opening.{Fails, IsOfOpening}
use Rattle.recovery.specs.Opens.{opens, ◌>>=◌}
use Rattle.recovery.specs.Rests.{AreLaterOnDisk, HasNoRest, IsRestOf}
use Rattle.served_disk.specs.declared.dumping.DiskDumpFault.{DiskDumpFault}
use Rattle.served_disk.specs.declared.dumping.DiskDumpFault.TheVariants as dump
use Rattle.served_disk.specs.Rests.{HasNoRestText, IsLabelled, IsRestRefused, IsRestReportedOn, IsRestText, line_of, line_of_found, without_damage}
use Rattle.served_disk.proofs.Reasons.{has_failed}

-- what is said of a value that is there
pub of_some : {X : Type 0} (P : Type 0) (Q : X → Type 0) (found : Option X) (x : X) → found ≡ Some x → MatchOption found P Q → Q x
of_some P Q found x is said = subst (λ o. MatchOption o P Q) is said

not_both : (Y : Type 0) (y : Y) (fault : StoreFault) → ◌≡◌ {A = Result Y StoreFault} (Ok y) (Err fault) → ⊥
not_both Y y fault same = cc

same_fault : (X Y : Type 0) (a b : StoreFault) → ◌≡◌ {A = Result Y StoreFault} (Err a) (Err b) → ◌≡◌ {A = Result X StoreFault} (Err a) (Err b)
same_fault X Y a b same = let is : a ≡ b = cc in ap (λ fault. Err fault) is

module _ {X Y : Type 0} where
  -- what is read first has the fault, if the rest has none
  first_fails : (f : X → Y) (first : Result X StoreFault) (fault : StoreFault) → IsNoDamage fault → Fails fault (first >>= (λ x. Ok (f x))) → Fails fault first
  first_fails f (Ok x) Unformatted may is = absurd (not_both Y (f x) Unformatted is)
  first_fails f (Err e) Unformatted may is = same_fault X Y e Unformatted is
  first_fails f (Ok x) BadGeometry may is = absurd (not_both Y (f x) BadGeometry is)
  first_fails f (Err e) BadGeometry may is = same_fault X Y e BadGeometry is
  first_fails f first (Damaged at) may is = absurd may
  first_fails f first DiskFault may is = tt
  first_fails f first Broken may is = absurd may
  first_fails f first NoMemory may is = tt
  first_fails f first EpochsUsedUp may is = absurd may
  first_fails f first Unready may is = absurd may

  -- what is read first is there, if the rest is
  first_is : (f : X → Y) (first : Result X StoreFault) (y : Y) → (first >>= (λ x. Ok (f x))) ≡ Ok y → (x : X) × (first ≡ Ok x)
  first_is f (Ok x) y is = (x, refl)
  first_is f (Err e) y is = absurd (not_both Y y e (sym is))

-- a disk that can be checked has a layout
pub labelled : (A : Type 0) (image : List (List ℕ)) (checked : Checked) → checked_in A image ≡ Ok checked → (layout : Layout) × (layout_in image ≡ Ok layout)
unfolding checked_in
labelled A image checked is = first_is _ (layout_in image) checked is

-- a disk without a layout can't be checked
no_layout : (A : Type 0) (image : List (List ℕ)) (fault : StoreFault) → IsNoDamage fault → Fails fault (checked_in A image) → Fails fault (layout_in image)
unfolding checked_in
no_layout A image fault may is = first_fails _ (layout_in image) fault may is

-- nor does it open
unlabelled : (A : Type 0) (image : List (List ℕ)) (fault : StoreFault) → IsNoDamage fault → Fails fault (layout_in image) → Fails fault (opens A image)
unfolding opens
unlabelled A image Unformatted may is = let none : layout_in image ≡ Err Unformatted = is in rw none refl
unlabelled A image BadGeometry may is = let none : layout_in image ≡ Err BadGeometry = is in rw none refl
unlabelled A image (Damaged at) may is = absurd may
unlabelled A image DiskFault may is = tt
unlabelled A image Broken may is = absurd may
unlabelled A image NoMemory may is = tt
unlabelled A image EpochsUsedUp may is = absurd may
unlabelled A image Unready may is = absurd may

-- a fault of a check, where damage is no fault
pub no_damage : (fault : StoreFault) → IsOfOpening fault → IsNoDamage (without_damage fault)
no_damage Unformatted may = tt
no_damage BadGeometry may = tt
no_damage (Damaged at) may = tt
no_damage DiskFault may = tt
no_damage Broken may = absurd may
no_damage NoMemory may = tt
no_damage EpochsUsedUp may = absurd may
no_damage Unready may = absurd may

-- a disk that can't be checked does not open
pub unchecked : (A : Type 0) (image : List (List ℕ)) (fault : StoreFault) → IsOfOpening fault → IsCheckOf A image (Err fault)
    → Fails (without_damage fault) (opens A image)
unchecked A image Unformatted may is = unlabelled A image Unformatted tt (no_layout A image Unformatted tt is)
unchecked A image BadGeometry may is = unlabelled A image BadGeometry tt (no_layout A image BadGeometry tt is)
unchecked A image (Damaged at) may is = tt
unchecked A image DiskFault may is = tt
unchecked A image Broken may is = absurd may
unchecked A image NoMemory may is = tt
unchecked A image EpochsUsedUp may is = absurd may
unchecked A image Unready may is = absurd may

-- out of memory, also for a check that found damage, hides no missing layout
pub has_label : (A : Type 0) (image : List (List ℕ)) (fault : StoreFault) → IsCheckOf A image (Err fault)
    → (◌≡◌ {A = Result Checked StoreFault} (Err fault) (Err NoMemory) → (layout : Layout) × (layout_in image ≡ Ok layout))
    → without_damage fault ≡ NoMemory → (layout : Layout) × (layout_in image ≡ Ok layout)
has_label A image (Damaged at) is met same = labelled A image is.0 is.1
has_label A image NoMemory is met same = met refl
has_label A image Unformatted is met same = absurd cc
has_label A image BadGeometry is met same = absurd cc
has_label A image DiskFault is met same = absurd cc
has_label A image Broken is met same = absurd cc
has_label A image EpochsUsedUp is met same = absurd cc
has_label A image Unready is met same = absurd cc

-- it is the device's only if that failed
pub of_device : (fault : StoreFault) → without_damage fault ≡ DiskFault → fault ≡ DiskFault
of_device Unformatted is = is
of_device BadGeometry is = is
of_device (Damaged at) is = absurd cc
of_device DiskFault is = is
of_device Broken is = is
of_device NoMemory is = is
of_device EpochsUsedUp is = is
of_device Unready is = is

-- the line of what is left, where that was found
pub reported_some : (A : Type 0) (checked : Checked) (found : Option (Rest A)) (rest : Rest A) (out : List ℕ) (whole : Bool) (disk : View) → found ≡ Some rest
    → IsRestReportedOn A checked (line_of_found found) out whole disk → IsRestReportedOn A checked (line_of rest) out whole disk
reported_some A checked found rest out whole disk is said = subst (λ (f : Option (Rest A)). IsRestReportedOn A checked (line_of_found f) out whole disk) is said

-- What is said of a disk after calls that only read holds of it before them.
module _ (A : Type 0) (old mid : View) (goes : old.honest → mid.honest) (same : old.honest → mid.reads ≡ old.reads) where
  pub reported_before : (checked : Checked) (line out : List ℕ) (whole : Bool)
      → IsRestReportedOn A checked line out whole mid → IsRestReportedOn A checked line out whole old
  reported_before checked line out whole is = record {
    lines = is.lines;
    well = is.well;
    reported = record {
      a = is.reported.a;
      b = is.reported.b;
      damage_a = λ honest. rw (same honest) at (is.reported.damage_a (goes honest));
      damage_b = λ honest. rw (same honest) at (is.reported.damage_b (goes honest));
      reported = is.reported.reported;
    };
    written = is.written;
    judged = is.judged;
  }

  module _ {W : Type 0} (contents : W → Option (List ℕ)) (took : W → List ℕ → W → Type 0) (flushed : W → W → Type 0) (before after : W) where
    pub text_before : (line : List ℕ) → IsRestText A contents took flushed before after line mid → IsRestText A contents took flushed before after line old
    text_before line (inl is) = inl (record {
      side = is.side;
      epoch = is.epoch;
      out = is.out;
      register = is.register;
      bad = is.bad;
      later = is.later;
      left = λ honest. subst (λ (i : List (List ℕ)). IsRestOf A i is.side is.epoch is.out is.register is.bad) (same honest) (is.left (goes honest));
      follow = λ honest. subst (λ (i : List (List ℕ)). AreLaterOnDisk A i is.side is.bad is.later) (same honest) (is.follow (goes honest));
      line_is = is.line_is;
      dumped = is.dumped;
      written = is.written;
    })
    text_before line (inr is) = inr (record {
      none = λ honest. subst (λ (i : List (List ℕ)). HasNoRest A i) (same honest) (is.none (goes honest));
      line_is = is.line_is;
      same = is.same;
    })

pub why_before : (A : Type 0) {W : Type 0} (took : W → List ℕ → W → Type 0) (failed : W → W → Type 0) (before after : W) (old mid new : View)
    → old.failures ≤ mid.failures → (old.honest → mid.honest) → (old.honest → mid.reads ≡ old.reads) → (old.honest → IsLabelled old)
    → (fault : DiskDumpFault) → IsRestRefused A took failed before after (Unit {0}) mid new fault → HasNoRestText A took failed before after old new fault
why_before A took failed before after old mid new later goes same label (dump.Opening fault) is = (
  record {
    kind = is.0.kind;
    there = λ honest. subst (λ (i : List (List ℕ)). Fails fault (opens A i)) (same honest) (is.0.there (goes honest));
    device = λ failed. has_failed old mid new later (is.0.device failed);
    memory = λ failed honest. label honest;
  },
  is.1,
)
why_before A took failed before after old mid new later goes same label (dump.Writing fault) is = record {
  side = is.side;
  epoch = is.epoch;
  out = is.out;
  register = is.register;
  bad = is.bad;
  left = λ honest. subst (λ (i : List (List ℕ)). IsRestOf A i is.side is.epoch is.out is.register is.bad) (same honest) (is.left (goes honest));
  unwritten = is.unwritten;
}
