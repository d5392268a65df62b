-- How a commit goes on after its record: the rows of a checkpoint under way, and the switch after the last one.
use Rattle.std.proofs.Common.{◌≡◌, ℕ, ◌+◌, List, ◌++◌, length, true, Bool, Option, None, Some, sym, ap, subst, ◌∙◌}
use Rattle.std.specs.Prelude.{IfSome, is_some, nat_eq}
use Rattle.std.proofs.lemmas.Bool.{false≢true}
use Rattle.sector_disk.specs.Disk.{View}
use Rattle.sector_disk.specs.Run.{HasMade}
use Rattle.sector_disk.specs.declared.record.Call.{Call}
use Rattle.sector_disk.proofs.Made.{made_of_more}
use Rattle.centre_core.specs.State.{State}
use Rattle.image_rows.specs.Rows.{rows_of}
use Rattle.checkpoint.specs.declared.side.Side.{Side}
use Rattle.recovery.specs.declared.ongoing.Ongoing.{Ongoing}
use Rattle.recovery.specs.Calls.{ongoing_calls, end_calls, rows_calls}
use Rattle.recovery.specs.AfterCommit.{HasWrittenRows, Stays}
use Rattle.recovery.specs.Lives.{StoreView}
use Rattle.recovery.specs.UnderWay.{ends_with}
use Rattle.recovery.proofs.Called.{made_both, made_in_second}

-- what the rows of a checkpoint under way left
abbrev pub Went : {A D : Type 0} → StoreView A D → StoreView A D → Option (Ongoing A) → Type 0
Went {A} old mid o = IfSome o (λ was. (is : Ongoing A) × (mid.ongoing ≡ Some is) × HasWrittenRows old.epoch was is)

-- whether all its rows are written
abbrev pub IsStated : {A D : Type 0} → StoreView A D → Bool → Type 0
IsStated mid whole = IfSome mid.ongoing (λ it. whole ≡ nat_eq it.progress.written (length (rows_of (mid.epoch + 1) it.register)))

module _ {A D : Type 0} (old mid : StoreView A D) (stays : Stays old mid) where
  module _ (was is : Ongoing A) (here : mid.ongoing ≡ Some is) (gone : HasWrittenRows old.epoch was is) (whole : Bool) (reported : IsStated mid whole) where
    states : whole ≡ nat_eq is.progress.written (length (rows_of (mid.epoch + 1) is.register))
    states = rw here at reported

    ends : ends_with (old.epoch + 1) was.register was.progress.written ≡ whole
    ends =
        sym (states ∙ ap (λ (epoch : ℕ). nat_eq is.progress.written (length (rows_of (epoch + 1) is.register))) stays.epoch
        ∙ ap (λ (s : State). nat_eq is.progress.written (length (rows_of (old.epoch + 1) s))) gone.register
        ∙ ap (λ (n : ℕ). nat_eq n (length (rows_of (old.epoch + 1) was.register))) gone.written)

  -- ---- the calls

  module _ (before between after : View) (begins was_open : Bool) where
    abbrev All : Option (Ongoing A) → List Call
    All o = ongoing_calls old.layout old.side old.epoch o begins was_open

    -- a row's write fails
    pub calls_in_rows : (o : Option (Ongoing A)) → is_some o ≡ true → IfSome o (λ was. HasMade before between (rows_calls old.layout old.side old.epoch was)) → HasMade before between (All o)
    calls_in_rows None some made = absurd (false≢true some)
    calls_in_rows (Some was) some made = made_of_more before between (rows_calls old.layout old.side old.epoch was)
        (end_calls old.side (ends_with (old.epoch + 1) was.register was.progress.written)) made

    -- the rows end the image
    module _ (reported : IsStated mid true) where
      pub calls_of_end : (o : Option (Ongoing A)) → is_some o ≡ true → Went old mid o →
          IfSome o (λ was. between.calls ≡ before.calls ++ rows_calls old.layout old.side old.epoch was) →
          IfSome mid.ongoing (λ it. after.calls ≡ between.calls ++ end_calls mid.side true) → after.calls ≡ before.calls ++ All o
      calls_of_end None some went made ended = absurd (false≢true some)
      calls_of_end (Some was) some (is, here, gone) made ended =
          let last : after.calls ≡ between.calls ++ end_calls mid.side true = rw here at ended in
          let same : after.calls ≡ between.calls ++ end_calls old.side true =
          subst (λ (s : Side). after.calls ≡ between.calls ++ end_calls s true) stays.side last in
          subst (λ (b : Bool). after.calls ≡ before.calls ++
          (rows_calls old.layout old.side old.epoch was ++ end_calls old.side b)) (sym (ends was is here gone true reported))
          (made_both before between after (rows_calls old.layout old.side old.epoch was) (end_calls old.side true) made same)

      pub calls_in_end : (o : Option (Ongoing A)) → is_some o ≡ true → Went old mid o →
          IfSome o (λ was. between.calls ≡ before.calls ++ rows_calls old.layout old.side old.epoch was) →
          HasMade between after (end_calls mid.side true) → HasMade before after (All o)
      calls_in_end None some went made ended = absurd (false≢true some)
      calls_in_end (Some was) some (is, here, gone) made ended =
          let same : HasMade between after (end_calls old.side true) = subst (λ (s : Side). HasMade between after (end_calls s true)) stays.side ended in
          subst (λ (b : Bool). HasMade before after (rows_calls old.layout old.side old.epoch was ++ end_calls old.side b))
          (sym (ends was is here gone true reported))
          (made_in_second before between after (rows_calls old.layout old.side old.epoch was) (end_calls old.side true) made
          same)
