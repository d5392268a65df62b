-- What is left of a side: its rows and records, one after another.
use Rattle.std.proofs.Common.{◌≡◌, ℕ, suc, ◌+◌, ◌-◌, ◌^◌, ◌<◌, ◌≤◌, Bool, true, false, List, [], ◌∷◌, ◌++◌, length, drop, get_or, replicate, Option}
use Rattle.std.proofs.Common.{Some, None, Ok, Err, MatchOption, refl, sym, subst, ap, ◌∙◌, add-one, arith, ltb, unwrap_or}
use Rattle.std.proofs.Common.{if◌then◌else◌}
use Rattle.std.proofs.lemmas.List.{drop_all, drop_more}
use Rattle.std.proofs.lemmas.Bool.{ltb-true}
use Rattle.sector_disk.specs.Disk.{View, sector}
use Rattle.registration.specs.declared.limits.Limits.{Limits}
use Rattle.centre_core.specs.Asked.{Asked}
use Rattle.centre_core.specs.declared.reply.Reply.{Reply}
use Rattle.centre_core.specs.History.{accepts, is_acceptance, next}
use Rattle.centre_core.specs.State.{State}
use Rattle.centre_core.specs.Step.{step}
use Rattle.image_rows.specs.Rows.{Header, HeaderInRange, HeaderRow, MailRow, RadioRow, Row, RuleRow, ServedRow}
use Rattle.image_rows.specs.RowReading.{IsRow, Spells, row_in}
use Rattle.image_rows.specs.RowText.{row_bytes, sector_of}
use Rattle.image_rows.specs.Loading.{◌>>=◌, Loading, begun, finished, row_taken}
use Rattle.image_rows.specs.Held.{taken_from}
use Rattle.recovery.specs.declared.damaged.DamageKind.{DamageKind}
use Rattle.recovery.specs.declared.damaged.DamageKind.TheVariants as kind
use Rattle.recovery.specs.Rests.{AreLaterOf, HasHeader, HasNoRest, IsGreaterSide, IsLeft, IsRestOf, KeptRows, LeadsTo, NothingIsLeft, left_in, kept_with}
use Rattle.recovery.specs.Rests.{lowered, made_by, made_or, none_kept, rows_kept, rows_stated, run_while, with_row}
use Rattle.recovery.specs.Rests.{closed, left, played, refused, unreadable}
use Rattle.recovery.specs.Inside.Rests.{HasAtMost, LeadsFrom}
use Rattle.checkpoint.specs.declared.layout.Layout.{Layout}
use Rattle.checkpoint.specs.declared.side.Side.{Side}
use Rattle.recovery.specs.declared.rest.LeftOut.{LeftOut}
use Rattle.checkpoint.specs.declared.side.Side.TheVariants as side
use Rattle.checkpoint.specs.Layout.{disk_size, slot_at}
use Rattle.identity.specs.Packed.{AreBytes}
use Rattle.recovery.specs.declared.fault.StoreFault.{StoreFault}
use Rattle.recovery.specs.declared.fault.StoreFault.TheVariants.{BadGeometry, Broken, Damaged, DiskFault, EpochsUsedUp, NoMemory, Unformatted, Unready}
use Rattle.recovery.specs.Checking.{IsNoDamage}
use Rattle.recovery.specs.Damage.{header_of}
use Rattle.recovery.specs.Label.{layout_in}
use Rattle.recovery.specs.Opening.{Fails}
use Rattle.recovery.specs.Opens.{opens}
use Rattle.gated_journal.specs.declared.place.Place.{Place}
use Rattle.gated_journal.specs.Settled.{record_in}

-- ---- rows

-- one row more
pub row_on : (image : List (List ℕ)) (slot : ℕ) (h : Header) (k : ℕ) (first now new : KeptRows) → now ≡ rows_kept image slot h first k
    → new ≡ kept_with h (k + 1) (sector image (slot + (k + 1))) now → new ≡ rows_kept image slot h first (k + 1)
unfolding rows_kept
row_on image slot h k first now new was is =
    let one : rows_kept image slot h first (k + 1) ≡ rows_kept image slot h first (suc k) = ap (rows_kept image slot h first) (add-one k) in
    is ∙ ap (kept_with h (k + 1) (sector image (slot + (k + 1)))) was ∙ sym one

pub none_on : (image : List (List ℕ)) (slot : ℕ) (h : Header) (first : KeptRows) → first ≡ rows_kept image slot h first 0
unfolding rows_kept
none_on image slot h first = refl

-- ---- how many rows

pub one_more : (n : ℕ) (h : Header) (what : DamageKind) → HasAtMost n h → HasAtMost (n + 1) (with_row h what)
one_more n h kind.Rule most = record { rules = omega (arith, most.rules); radios = omega (arith, most.radios); mail = omega (arith, most.mail); served = omega (arith, most.served) }
one_more n h kind.Radio most = record { rules = omega (arith, most.rules); radios = omega (arith, most.radios); mail = omega (arith, most.mail); served = omega (arith, most.served) }
one_more n h kind.Item most = record { rules = omega (arith, most.rules); radios = omega (arith, most.radios); mail = omega (arith, most.mail); served = omega (arith, most.served) }
one_more n h kind.Station most = record { rules = omega (arith, most.rules); radios = omega (arith, most.radios); mail = omega (arith, most.mail); served = omega (arith, most.served) }
one_more n h kind.Header most = record { rules = omega (arith, most.rules); radios = omega (arith, most.radios); mail = omega (arith, most.mail); served = omega (arith, most.served) }
one_more n h (kind.Record commands) most = record { rules = omega (arith, most.rules); radios = omega (arith, most.radios); mail = omega (arith, most.mail); served = omega (arith, most.served) }
one_more n h kind.Gate most = record { rules = omega (arith, most.rules); radios = omega (arith, most.radios); mail = omega (arith, most.mail); served = omega (arith, most.served) }

pub at_most : (n m : ℕ) (h : Header) → n ≤ m → HasAtMost n h → HasAtMost m h
at_most n m h le most = record { rules = omega (arith, most.rules, le); radios = omega (arith, most.radios, le); mail = omega (arith, most.mail, le); served = omega (arith, most.served, le) }

-- ---- the header that is lowered

lower : (number most : ℕ) → (less : Bool) → ltb number most ≡ less → less ≡ true → most < 2 ^ 32 → number < 2 ^ 32
lower number most less is lt small = omega (arith, ltb-true number most (is ∙ lt), small)

pub lowered_is_row : (h kept : Header) → IsRow (HeaderRow h) → IsRow (HeaderRow (lowered h kept))
lowered_is_row h kept is = by_rules (ltb kept.rules h.rules) refl
  where
    range : HeaderInRange h
    range = is.range

    by_served : (b : Bool) → ltb kept.served h.served ≡ b → IsRow (HeaderRow (if b then record h { served = kept.served } else h))
    by_served true less =
        record {
          range = record {
            some = range.some;
            most = range.most;
            count = range.count;
            rules = range.rules;
            radios = range.radios;
            mail =
                range.mail;
            served = lower kept.served h.served true less refl range.served;
          };
          known = refl;
        }
    by_served false less = is

    by_mail : (b : Bool) → ltb kept.mail h.mail ≡ b → IsRow (HeaderRow (if b then record h { mail = kept.mail } else (if ltb kept.served h.served then record h { served = kept.served } else h)))
    by_mail true less = record {
      range =
          record {
            some = range.some;
            most = range.most;
            count = range.count;
            rules = range.rules;
            radios = range.radios;
            mail =
                lower kept.mail h.mail true less refl range.mail;
            served = range.served;
          };
      known = refl;
    }
    by_mail false less = by_served (ltb kept.served h.served) refl

    by_radios : (b : Bool) → ltb kept.radios h.radios ≡ b → IsRow (HeaderRow (if b then record h { radios = kept.radios } else (if ltb kept.mail h.mail then record h { mail = kept.mail }
        else (if ltb kept.served h.served then record h { served = kept.served } else h))))
    by_radios true less =
        record {
          range = record {
            some = range.some;
            most = range.most;
            count = range.count;
            rules = range.rules;
            radios =
                lower kept.radios h.radios true less refl range.radios;
            mail = range.mail;
            served = range.served;
          };
          known = refl;
        }
    by_radios false less = by_mail (ltb kept.mail h.mail) refl

    by_rules : (b : Bool) → ltb kept.rules h.rules ≡ b → IsRow (HeaderRow (if b then record h { rules = kept.rules } else (if ltb kept.radios h.radios then record h { radios = kept.radios }
        else (if ltb kept.mail h.mail then record h { mail = kept.mail } else (if ltb kept.served h.served then record h { served = kept.served } else h)))))
    by_rules true less = record {
      range =
          record {
            some = range.some;
            most = range.most;
            count = range.count;
            rules = lower kept.rules h.rules true less refl range.rules;
            radios =
                range.radios;
            mail = range.mail;
            served = range.served;
          };
      known = refl;
    }
    by_rules false less = by_radios (ltb kept.radios h.radios) refl

-- ---- the first row

-- the sector of a header is read as that header
pub header_read : ((row : Row) (rest : List ℕ) → IsRow row → row_in (row_bytes row ++ rest) ≡ Some row) → (h : Header) → IsRow (HeaderRow h) → row_in (sector_of (HeaderRow h)) ≡ Some (HeaderRow h)
unfolding sector_of
header_read written h is = written (HeaderRow h) (replicate (512 - length (row_bytes (HeaderRow h))) 0) is

-- what the loader makes of it
pub header_begins : (limits : Limits) (h : Header) (bytes : List ℕ) → row_in bytes ≡ Some (HeaderRow h) → (taken : Bool) (old new : Loading) → old ≡ begun limits
    → (taken ≡ true → taken_from old bytes ≡ Some new) → (taken ≡ false → (taken_from old bytes ≡ None) × (new ≡ old))
    → new ≡ unwrap_or (row_taken (begun limits) (HeaderRow h)) (begun limits)
header_begins limits h bytes read taken old new is if_taken if_not =
    by taken refl
  where
    same : taken_from old bytes ≡ row_taken (begun limits) (HeaderRow h)
    same = ap (λ (o : Option Row). o >>= row_taken old) read ∙ ap (λ (l : Loading). row_taken l (HeaderRow h)) is

    by : (b : Bool) → taken ≡ b → new ≡ unwrap_or (row_taken (begun limits) (HeaderRow h)) (begun limits)
    by true e = ap (λ o. unwrap_or o (begun limits)) (sym (if_taken e) ∙ same)
    by false e = (if_not e).1 ∙ is ∙ ap (λ o. unwrap_or o (begun limits)) (sym (if_not e).0 ∙ same)

-- ---- the register that the rows make

module _ (limits : Limits) (image : List (List ℕ)) (slot : ℕ) (stated : Header) where
  abbrev made : ℕ → Header → Option (Header × State)
  made = made_by limits image slot stated

  -- all rows have come
  pub made_now : (n : ℕ) (h : Header) (kept : KeptRows) (base : ℕ × State) → kept ≡ rows_kept image slot stated (none_kept limits h stated) (rows_stated stated)
      → finished kept.loading ≡ Some base → made (n + 1) h ≡ Some (h, base.1)
  unfolding made_by
  made_now n h kept base is whole = ap (λ (k : ℕ). made k h) (add-one n) ∙
      ap (λ (k : KeptRows). made_or h (finished k.loading) (made n (lowered h k.rows))) (sym is) ∙
      ap (λ (b : Option (ℕ × State)). made_or h b (made n (lowered h kept.rows))) whole

  -- some have not
  pub made_later : (n : ℕ) (h : Header) (kept : KeptRows) → kept ≡ rows_kept image slot stated (none_kept limits h stated) (rows_stated stated)
      → finished kept.loading ≡ None → made (n + 1) h ≡ made n (lowered h kept.rows)
  unfolding made_by
  made_later n h kept is short = ap (λ (k : ℕ). made k h) (add-one n) ∙ ap (λ (k : KeptRows). made_or h (finished k.loading) (made n (lowered h k.rows)))
      (sym is) ∙ ap (λ (b : Option (ℕ × State)). made_or h b (made n (lowered h kept.rows))) short

  pub made_never : (h : Header) → made 0 h ≡ None
  unfolding made_by
  made_never h = refl

pub one_turn : (k : ℕ) → k < 5 → 5 - k ≡ (5 - (k + 1)) + 1
one_turn k lt = omega (arith, lt)

pub no_turn : (k : ℕ) → 5 ≤ k → 5 - k ≡ 0
no_turn k le = omega (arith, le)

-- ---- commands

module _ {A : Type 0} where
  -- the current command, and those after it
  while_on : (cs : List (Asked A)) (i : ℕ) (c : Asked A) (s : State) → i < length cs → c ≡ get_or cs i c → run_while s (drop i cs) ≡ run_while s (c ∷ drop (i + 1) cs)
  while_on cs i c s lt is = ap (run_while s) (drop_more cs i c lt ∙ ap (λ (d : Asked A). d ∷ drop (i + 1) cs) (sym is))

  pub while_more : (cs : List (Asked A)) (i : ℕ) (c : Asked A) (s t : State) (reply : Reply A) (total : State × Bool) → i < length cs →
      c ≡ get_or cs i c → (t, reply) ≡ step s c → is_acceptance reply ≡ true → run_while s (drop i cs) ≡ total
      → run_while t (drop (i + 1) cs) ≡ total
  unfolding run_while
  while_more cs i c s t reply total lt is step_is accepted so_far =
      let state : next s c ≡ t = ap (λ x. x.0) (sym step_is) in
      let yes : accepts s c ≡ true = ap (λ x. is_acceptance x.1) (sym step_is) ∙ accepted in
      let one : run_while s (c ∷ drop (i + 1) cs) ≡ run_while t (drop (i + 1) cs) = rw yes (ap (λ (u : State). run_while u (drop (i + 1) cs)) state) in
      sym one ∙ sym (while_on cs i c s lt is) ∙ so_far

  pub while_stops : (cs : List (Asked A)) (i : ℕ) (c : Asked A) (s t : State) (reply : Reply A) (total : State × Bool) → i < length cs →
      c ≡ get_or cs i c → (t, reply) ≡ step s c → is_acceptance reply ≡ false → run_while s (drop i cs) ≡ total
      → (t, false) ≡ total
  unfolding run_while
  while_stops cs i c s t reply total lt is step_is not_accepted so_far =
      let state : next s c ≡ t = ap (λ x. x.0) (sym step_is) in
      let no : accepts s c ≡ false = ap (λ x. is_acceptance x.1) (sym step_is) ∙ not_accepted in
      let one : run_while s (c ∷ drop (i + 1) cs) ≡ (t, false) = rw no (ap (λ (u : State). (u, false)) state) in
      sym one ∙ sym (while_on cs i c s lt is) ∙ so_far

  pub while_done : (cs : List (Asked A)) (i : ℕ) (s : State) (total : State × Bool) → length cs ≤ i → run_while s (drop i cs) ≡ total → (s, true) ≡ total
  unfolding run_while
  while_done cs i s total le so_far = sym (sym so_far ∙ ap (run_while s) (drop_all i cs le))

-- ---- records

module _ (A : Type 0) (p : Place) (disk : View) (s : State) where
  pub ends_closed : (bad : Option ℕ) → bad ≡ None → record_in A p disk ≡ Ok None → LeadsFrom A p disk s s bad
  ends_closed bad none is = subst (λ (b : Option ℕ). LeadsFrom A p disk s s b) (sym none) (closed p.count p.next s is)

  pub ends_bad : (at : ℕ) → record_in A p disk ≡ Err at → LeadsFrom A p disk s s (Some at)
  ends_bad at is = unreadable p.count p.next s at is

  module _ (commands : List (Asked A)) (gate : ℕ) (there : record_in A p disk ≡ Ok (Some (commands, gate))) (t : State) where
    pub ends_refused : (at : ℕ) → at ≡ p.next + 1 → (t, false) ≡ run_while s commands → LeadsFrom A p disk s t (Some at)
    ends_refused at is ran = subst (λ (x : ℕ). LeadsFrom A p disk s t (Some x)) (sym is) (refused p.count p.next s t commands gate there (sym ran))

    pub goes_on : (t, true) ≡ run_while s commands → (new : Place) → new.form ≡ p.form → new.end ≡ p.end → new.next ≡ gate → new.count ≡ p.count + length commands
        → (u : State) (last : Option ℕ) → LeadsFrom A new disk t u last → LeadsFrom A p disk s u last
    goes_on ran new form end next count u last leads =
        let on : LeadsTo A new.form disk.reads new.end new.count new.next t u last = leads in
        played p.count p.next s t u commands gate last there (sym ran) (rw (form, end, next, count) at on)

-- ---- sides

-- the row of a header
header_row : (row : Option Row) (h : Header) → header_of row ≡ Some h → row ≡ Some (HeaderRow h)
header_row (Some (HeaderRow k)) h is = ap (λ (o : Option Header). row_by o) is
  where
    row_by : Option Header → Option Row
    row_by (Some x) = Some (HeaderRow x)
    row_by None = None
header_row (Some (RuleRow prefix rule)) h is = absurd cc
header_row (Some (RadioRow itsi radio groups)) h is = absurd cc
header_row (Some (MailRow w)) h is = absurd cc
header_row (Some (ServedRow station last)) h is = absurd cc
header_row None h is = absurd cc

module _ (layout : Layout) (side : Side) (image : List (List ℕ)) where
  -- a header that was read has its numbers in range
  pub stated_is_row : ((row : Row) (bytes : List ℕ) → AreBytes bytes → row_in bytes ≡ Some row → IsRow row × Spells row bytes) → AreBytes (sector image (slot_at layout side))
      → (h : Header) → HasHeader layout side image h → IsRow (HeaderRow h)
  stated_is_row only are h has = (only (HeaderRow h) (sector image (slot_at layout side)) are (header_row (row_in (sector image (slot_at layout side))) h has.stated)).0

  -- it is the only one
  pub nothing_of : (h : Header) → HasHeader layout side image h → left_in layout.limits image (slot_at layout side) h ≡ None → NothingIsLeft layout side image
  nothing_of h has none other it =
      let same : ◌≡◌ {A = Option Header} (Some h) (Some other) = sym has.stated ∙ it.stated in
      subst (λ (o : Option Header). nothing_by o) same none
    where
      nothing_by : Option Header → Type 0
      nothing_by (Some x) = left_in layout.limits image (slot_at layout side) x ≡ None
      nothing_by None = ⊥

  -- what was found of it, on the same image
  pub on_side : {X : Type 0} (found : Option X) (P : X → List (List ℕ) → Type 0) (mid : List (List ℕ)) → mid ≡ image → (h : Header) → HasHeader layout side image h
      → MatchOption found (left_in layout.limits mid (slot_at layout side) h ≡ None) (λ x. P x mid) → MatchOption found (NothingIsLeft layout side image) (λ x. P x image)
  on_side None P mid same h has none = nothing_of h has (subst (λ (i : List (List ℕ)). left_in layout.limits i (slot_at layout side) h ≡ None) same none)
  on_side (Some x) P mid same h has says = subst (λ (i : List (List ℕ)). P x i) same says

-- what is left of a damaged disk
pub of_greater : {X : Type 0} (A : Type 0) (image : List (List ℕ)) (at : ℕ) → opens A image ≡ Err (Damaged at) → (layout : Layout) (side : Side) →
    layout_in image ≡ Ok layout → IsGreaterSide A layout image side
    → (found : Option X) (side_of : X → Side) (epoch_of : X → ℕ) (out_of : X → LeftOut) (state_of : X → State) (stop_of : X → Option ℕ) (later_of : X → ℕ)
    → MatchOption found (NothingIsLeft layout side image) (λ x. (side_of x ≡ side) × IsLeft A layout side image (epoch_of x) (out_of x) (state_of x) (stop_of x)
    × AreLaterOf A layout side image (stop_of x) (later_of x))
    → MatchOption found (HasNoRest A image) (λ x. IsRestOf A image (side_of x) (epoch_of x) (out_of x) (state_of x) (stop_of x))
of_greater A image at bad layout side label greater None side_of epoch_of out_of state_of stop_of later_of says =
    record { at = at; layout = layout; side = side; damaged = bad; label = label; greater = greater; nothing = says }
of_greater A image at bad layout side label greater (Some x) side_of epoch_of out_of state_of stop_of later_of says =
    subst (λ (s : Side). IsRestOf A image s (epoch_of x) (out_of x) (state_of x) (stop_of x)) (sym says.0)
    (left at layout side (epoch_of x) (out_of x) (state_of x) (stop_of x) bad label greater says.1)

-- a disk without a layout does not open
pub unlabelled : (A : Type 0) (image : List (List ℕ)) (fault : StoreFault) → IsNoDamage fault → Fails fault (layout_in image) → Fails fault (opens A image)
unfolding opens
unlabelled A image Unformatted may is = let none : layout_in image ≡ Err Unformatted = is in rw none refl
unlabelled A image BadGeometry may is = let none : layout_in image ≡ Err BadGeometry = is in rw none refl
unlabelled A image (Damaged at) may is = absurd may
unlabelled A image DiskFault may is = tt
unlabelled A image Broken may is = absurd may
unlabelled A image NoMemory may is = tt
unlabelled A image EpochsUsedUp may is = absurd may
unlabelled A image Unready may is = absurd may

-- a side's slot lies on the disk
pub slot_inside : (layout : Layout) (side : Side) (sectors : ℕ) → disk_size layout ≤ sectors → slot_at layout side < sectors
slot_inside layout side.A sectors room = omega (arith, room)
slot_inside layout side.B sectors room = omega (arith, room)
