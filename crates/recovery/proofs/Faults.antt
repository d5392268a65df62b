-- What the label and the roots of a disk state where they are at fault.
use Rattle.std.proofs.Common.{◌≡◌, ◌≢◌, ◌⊎◌, inl, inr, ℕ, ◌<◌, ◌≤◌, Bool, true, false, eqb, leb, List, ◌++◌, length, take, drop, slice_index, Option}
use Rattle.std.proofs.Common.{Some, None, Result, Ok, Err, refl, sym, subst, ap, ◌∙◌, if◌then◌else◌}
use Rattle.std.proofs.Math.Seq.{take-append_seam}
use Rattle.std.proofs.lemmas.Bool.{leb-true, lt-leb}
use Rattle.std.proofs.lemmas.Bool.Decides.{eqb_tells}
use Rattle.std.proofs.lemmas.List.{take-append-drop}
use Rattle.std.proofs.lemmas.Slice.Eq.{bytes_eq-Decides}
use Rattle.base.proofs.Options.{some_is}
use Rattle.sector_disk.specs.Disk.{sector}
use Rattle.registration.specs.Limits.{AreLimits}
use Rattle.registration.specs.declared.limits.Limits.{Limits}
use Rattle.identity.specs.Packed.{AreBytes}
use Rattle.command_bytes.specs.Fields.{◌>>=◌, big, number_at}
use Rattle.command_bytes.proofs.Numbers.{bytes-drop, number_takes}
use Rattle.command_bytes.proofs.Steps.{bind_some, some_where}
use Rattle.gated_journal.specs.Half.{IsClosed, IsOpen}
use Rattle.checkpoint.specs.Half.{IsHalfSize}
use Rattle.checkpoint.specs.declared.layout.Layout.{Layout}
use Rattle.checkpoint.specs.declared.side.Side.{Side}
use Rattle.checkpoint.specs.declared.side.Side.TheVariants as side
use Rattle.checkpoint.specs.Label.{IsLabel, label_size, label_text, name}
use Rattle.checkpoint.specs.Layout.{disk_size, label_at, root_at, slot_at}
use Rattle.checkpoint.specs.OnSide.{slot_epoch}
use Rattle.recovery.specs.declared.fault.StoreFault.{StoreFault}
use Rattle.recovery.specs.declared.fault.StoreFault.TheVariants.{BadGeometry, Damaged, Unformatted}
use Rattle.recovery.specs.Ranges.{are_limits, half_size_passes, is_half_size, layout_by, layout_of, limits_by, limits_of, limits_pass}
use Rattle.recovery.specs.declared.label.LabelNumbers.{LabelNumbers}
use Rattle.recovery.specs.Label.{fitting, is_named, layout_in, layout_of_numbers, numbers_at}
use Rattle.recovery.specs.Opens.{side_at, side_in}
use Rattle.recovery.proofs.Labelled.{after_name, label_length, label_parts, label_numbers}
use Rattle.recovery.proofs.Sided.{open_side, shut_side}

-- ---- the numbers that are read are there

journal_step : ℕ → ℕ → ℕ → ℕ → ℕ → ℕ × List ℕ → Option LabelNumbers
journal_step n r d m s journal = Some (record { number = n; rules = r; radios = d; mail = m; stations = s; journal = journal.0 })

stations_step : ℕ → ℕ → ℕ → ℕ → ℕ × List ℕ → Option LabelNumbers
stations_step n r d m stations = number_at 4 stations.1 >>= journal_step n r d m stations.0

mail_step : ℕ → ℕ → ℕ → ℕ × List ℕ → Option LabelNumbers
mail_step n r d mail = number_at 4 mail.1 >>= stations_step n r d mail.0

radios_step : ℕ → ℕ → ℕ × List ℕ → Option LabelNumbers
radios_step n r radios = number_at 4 radios.1 >>= mail_step n r radios.0

rules_step : ℕ → ℕ × List ℕ → Option LabelNumbers
rules_step n rules = number_at 4 rules.1 >>= radios_step n rules.0

number_step : ℕ × List ℕ → Option LabelNumbers
number_step number = number_at 4 number.1 >>= rules_step number.0

abbrev stated_text : LabelNumbers → List ℕ → List ℕ
stated_text t rest = big 2 t.number ++ (big 4 t.rules ++ (big 4 t.radios ++ (big 4 t.mail ++ (big 4 t.stations ++ (big 4 t.journal ++ rest)))))

stated_takes : (bytes : List ℕ) (t : LabelNumbers) → AreBytes bytes → numbers_at bytes ≡ Some t → (rest : List ℕ) × (bytes ≡ stated_text t rest)
unfolding numbers_at number_step rules_step radios_step mail_step stations_step journal_step
stated_takes bytes t are e =
    let a = bind_some (number_at 2 bytes) number_step t e in
    let number : ℕ × List ℕ = a.0 in
    let first = number_takes 2 bytes number are a.1 in
    let b = bind_some (number_at 4 number.1) (rules_step number.0) t a.2 in
    let rules : ℕ × List ℕ = b.0 in
    let second = number_takes 4 number.1 rules first.1 b.1 in
    let c = bind_some (number_at 4 rules.1) (radios_step number.0 rules.0) t b.2 in
    let radios : ℕ × List ℕ = c.0 in
    let third = number_takes 4 rules.1 radios second.1 c.1 in
    let d = bind_some (number_at 4 radios.1) (mail_step number.0 rules.0 radios.0) t c.2 in
    let mail : ℕ × List ℕ = d.0 in
    let fourth = number_takes 4 radios.1 mail third.1 d.1 in
    let f = bind_some (number_at 4 mail.1) (stations_step number.0 rules.0 radios.0 mail.0) t d.2 in
    let stations : ℕ × List ℕ = f.0 in
    let fifth = number_takes 4 mail.1 stations fourth.1 f.1 in
    let g = bind_some (number_at 4 stations.1) (journal_step number.0 rules.0 radios.0 mail.0 stations.0) t f.2 in
    let journal : ℕ × List ℕ = g.0 in
    let sixth = number_takes 4 stations.1 journal fifth.1 g.1 in
    let made : LabelNumbers = record { number = number.0; rules = rules.0; radios = radios.0; mail = mail.0; stations = stations.0; journal = journal.0 } in
    let whole : bytes ≡ stated_text made journal.1 =
    first.0 ∙ ap (λ (l : List ℕ). big 2 number.0 ++ l) (second.0 ∙ ap (λ (l : List ℕ). big 4 rules.0 ++ l) (third.0 ∙ ap (λ (l : List ℕ). big 4 radios.0 ++ l) (fourth.0
    ∙ ap (λ (l : List ℕ). big 4 mail.0 ++ l) (fifth.0 ∙ ap (λ (l : List ℕ). big 4 stations.0 ++ l) sixth.0)))) in
    (journal.1, whole ∙ ap (λ (u : LabelNumbers). stated_text u journal.1) (some_is made t g.2))

-- ---- the layout of these numbers

record AreOf (limits : Limits) (rules radios mail stations : ℕ) : Type 0 where
  rules_are : rules ≡ limits.rules
  radios_are : radios ≡ limits.radios
  mail_is : mail ≡ limits.mail
  stations_are : stations ≡ limits.stations

limits_from : (rules radios mail stations : ℕ) (may : Bool) (is : may ≡ true → AreLimits rules radios mail stations) (limits : Limits) →
    limits_by rules radios mail stations may is ≡ Some limits → AreOf limits rules radios mail stations
limits_from rules radios mail stations true is limits e =
    let same : Limits = record { rules = rules; radios = radios; mail = mail; stations = stations; in_range = is refl } in
    let one : same ≡ limits = some_is same limits e in
    record {
      rules_are = ap (λ (l : Limits). l.rules) one;
      radios_are = ap (λ (l : Limits). l.radios) one;
      mail_is = ap (λ (l : Limits). l.mail) one;
      stations_are = ap (λ (l : Limits). l.stations) one;
    }
limits_from rules radios mail stations false is limits e = absurd cc

layout_from : (limits : Limits) (journal : ℕ) (may : Bool) (is : may ≡ true → IsHalfSize journal) (layout : Layout) →
    layout_by limits journal may is ≡ Some layout → (limits ≡ layout.limits) × (journal ≡ layout.journal)
layout_from limits journal true is layout e =
    let same : Layout = record { limits = limits; journal = journal; in_range = is refl } in
    let one : same ≡ layout = some_is same layout e in
    (ap (λ (l : Layout). l.limits) one, ap (λ (l : Layout). l.journal) one)
layout_from limits journal false is layout e = absurd cc

one_number : (n : ℕ) → eqb n 1 ≡ true → n ≡ 1
one_number n is = elim (eqb_tells n 1) [ inl same ↦ same.1 | inr other ↦ absurd cc ]

stated_only : (t : LabelNumbers) (layout : Layout) → layout_of_numbers t ≡ Some layout → t ≡ label_numbers layout
stated_only t layout e =
    let numbered = some_where (eqb t.number 1) (limits_of t.rules t.radios t.mail t.stations >>= λ limits. layout_of limits t.journal) layout e in
    let b = bind_some (limits_of t.rules t.radios t.mail t.stations) (λ limits. layout_of limits t.journal) layout numbered.1 in
    let limits : Limits = b.0 in
    let are = limits_from t.rules t.radios t.mail t.stations (are_limits t.rules t.radios t.mail t.stations) (limits_pass t.rules t.radios t.mail t.stations) limits b.1 in
    let is = layout_from limits t.journal (is_half_size t.journal) (half_size_passes t.journal) layout b.2 in
    let n : t.number ≡ 1 = one_number t.number numbered.0 in
    let r : t.rules ≡ layout.limits.rules = are.rules_are ∙ ap (λ (l : Limits). l.rules) is.0 in
    let d : t.radios ≡ layout.limits.radios = are.radios_are ∙ ap (λ (l : Limits). l.radios) is.0 in
    let m : t.mail ≡ layout.limits.mail = are.mail_is ∙ ap (λ (l : Limits). l.mail) is.0 in
    let s : t.stations ≡ layout.limits.stations = are.stations_are ∙ ap (λ (l : Limits). l.stations) is.0 in
    λ i. record { number = n i; rules = r i; radios = d i; mail = m i; stations = s i; journal = is.1 i }

-- ---- the label

module _ (image : List (List ℕ)) where
  abbrev first : List ℕ
  first = sector image label_at

  abbrev read : Option Layout
  read = numbers_at (drop 8 first) >>= layout_of_numbers

  named : is_named first ≡ true → take 8 first ≡ name
  named is = (bytes_eq-Decides (take 8 first) name).0 is

  read_label : AreBytes first → take 8 first ≡ name → (layout : Layout) → read ≡ Some layout → IsLabel layout first
  read_label are begins layout e =
      let b = bind_some (numbers_at (drop 8 first)) layout_of_numbers layout e in
      let t : LabelNumbers = b.0 in
      let holds = stated_takes (drop 8 first) t (bytes-drop 8 first are) b.1 in
      let following : drop 8 first ≡ after_name layout holds.0 = holds.1 ∙ ap (λ (u : LabelNumbers). stated_text u holds.0) (stated_only t layout b.2) in
      let whole : first ≡ label_text layout ++ holds.0 = sym (take-append-drop 8 first) ∙ ap (λ (l : List ℕ). l ++ drop 8 first) begins ∙
      ap (λ (l : List ℕ). name ++ l) following ∙ sym (label_parts layout holds.0) in
      ap (take label_size) whole ∙ ap (λ (n : ℕ). take n (label_text layout ++ holds.0)) (sym (label_length layout)) ∙ take-append_seam (label_text layout) holds.0

  -- what the two tests make of the label
  abbrev judged : Bool → Option Layout → Result Layout StoreFault
  judged is label = if is then fitting (length image) label else Err Unformatted

  pub fit_only : (label : Option Layout) (layout : Layout) → fitting (length image) label ≡ Ok layout → (label ≡ Some layout) × (disk_size layout ≤ length image)
  fit_only None layout e = absurd cc
  fit_only (Some l) layout e = fit_by (leb (disk_size l) (length image)) refl e
    where
      fit_by : (fits : Bool) → leb (disk_size l) (length image) ≡ fits → (if fits then Ok l else Err BadGeometry) ≡ Ok layout → (Some l ≡ Some layout) × (disk_size layout ≤ length image)
      fit_by true is ok = let same : l ≡ layout = cc in (ap Some same, subst (λ (x : Layout). disk_size x ≤ length image) same (leb-true (disk_size l) (length image) is))
      fit_by false is ok = absurd cc

  pub label_only : AreBytes first → (layout : Layout) → layout_in image ≡ Ok layout → IsLabel layout first × (disk_size layout ≤ length image)
  unfolding layout_in
  label_only are layout e =
      elim (is_named first) as (λ b. is_named first ≡ b → judged b read ≡ Ok layout → IsLabel layout first × (disk_size layout ≤ length image)) [
        | true ↦ λ is ok. let fits = fit_only read layout ok in (read_label are (named is) layout fits.0, fits.1)
        | false ↦ λ is ok. absurd cc
      ] refl e

  never_unformatted : (label : Option Layout) → fitting (length image) label ≡ Err Unformatted → ⊥
  never_unformatted None e = cc
  never_unformatted (Some l) e = by (leb (disk_size l) (length image)) e
    where
      by : (fits : Bool) → (if fits then (let r : Result Layout StoreFault = Ok l in r) else Err BadGeometry) ≡ Err Unformatted → ⊥
      by true is = cc
      by false is = cc

  pub unformatted : (layout_in image ≡ Err Unformatted → take 8 first ≢ name) × (take 8 first ≢ name → layout_in image ≡ Err Unformatted)
  unfolding layout_in
  unformatted = (
    λ e begins. never_unformatted read (rw ((bytes_eq-Decides (take 8 first) name).1 begins) at e),
    λ apart. elim (is_named first) as (λ b. is_named first ≡ b → judged b read ≡ Err Unformatted) [ true ↦ λ is. absurd (apart (named is)) | false ↦ λ is. refl ] refl,
  )

  pub bad_geometry : AreBytes first → take 8 first ≡ name → ((layout : Layout) → IsLabel layout first → length image < disk_size layout) → layout_in image ≡ Err BadGeometry
  unfolding layout_in
  bad_geometry are begins none = rw ((bytes_eq-Decides (take 8 first) name).1 begins) (too_small read (λ layout e. none layout (read_label are begins layout e)))
    where
      too_small : (label : Option Layout) → ((layout : Layout) → label ≡ Some layout → length image < disk_size layout) → fitting (length image) label ≡ Err BadGeometry
      too_small None small = refl
      too_small (Some l) small = rw (lt-leb (disk_size l) (length image) (small l refl)) refl

-- ---- the roots

module _ (layout : Layout) (image : List (List ℕ)) where
  abbrev root : Side → List ℕ
  root s = sector image (root_at s)

  pub none_open : IsClosed (root side.A) → IsClosed (root side.B) → side_in layout image ≡ Err (Damaged (root_at side.A))
  unfolding side_in
  none_open a b = rw (shut_side layout side.A image a) (rw (shut_side layout side.B image b) refl)

  no_header : (s : Side) → IsOpen (root s) → slot_epoch layout s image ≡ None → side_at layout s image ≡ Err (Damaged (slot_at layout s))
  unfolding side_at
  no_header s opened none = rw opened (rw none refl)

  pub first_lost : IsOpen (root side.A) → slot_epoch layout side.A image ≡ None → side_in layout image ≡ Err (Damaged (slot_at layout side.A))
  unfolding side_in
  first_lost opened none = rw (no_header side.A opened none) refl

  -- a side that is closed, or has a header
  abbrev IsWhole : Side → Type 0
  IsWhole s = IsClosed (root s) ⊎ ((epoch : ℕ) × (slot_epoch layout s image ≡ Some epoch))

  whole_read : (s : Side) → IsWhole s → (epoch : Option ℕ) × (side_at layout s image ≡ Ok epoch)
  whole_read s (inl shut) = (None, shut_side layout s image shut)
  whole_read s (inr (epoch, states)) = elim (eqb_tells (slice_index (root s) 0) 1) [
    | inl same ↦ (Some epoch, open_side layout s image epoch same.1 states)
    | inr other ↦ (None, shut_side layout s image other.1)
  ]

  pub second_lost : IsWhole side.A → IsOpen (root side.B) → slot_epoch layout side.B image ≡ None → side_in layout image ≡ Err (Damaged (slot_at layout side.B))
  unfolding side_in
  second_lost whole opened none = let a = whole_read side.A whole in rw a.1 (rw (no_header side.B opened none) refl)

  same_number : (n : ℕ) → eqb n n ≡ true
  same_number n = elim (eqb_tells n n) [ inl same ↦ same.0 | inr other ↦ absurd (other.1 refl) ]

  pub equal_epochs : (epoch : ℕ) → IsOpen (root side.A) → IsOpen (root side.B) → slot_epoch layout side.A image ≡ Some epoch →
      slot_epoch layout side.B image ≡ Some epoch → side_in layout image ≡ Err (Damaged (root_at side.B))
  unfolding side_in
  equal_epochs epoch a b stated_a stated_b = rw (open_side layout side.A image epoch a stated_a) (rw (open_side layout side.B image epoch b stated_b) (rw (same_number epoch) refl))
