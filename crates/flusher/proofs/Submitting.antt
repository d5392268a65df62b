-- What a session puts into the queue: commands, and its end as the last.
use Rattle.std.proofs.Common.{◌≡◌, ◌+◌, true, List, [], ◌∷◌, ◌++◌, length, refl, ap, subst, sym, true≢false, arith, length-append}
use Rattle.std.specs.declared.alloc.Global.{Global}
use Rattle.registration.specs.Numbers.{Station}
use Rattle.centre_core.specs.Asked.{Asked}
use Rattle.station_queue.specs.declared.entry.Entry.{Entry}
use Rattle.station_queue.specs.declared.entry.Entry.TheVariants.{Submitted, Ended}
use Rattle.station_queue.specs.declared.entry.Request.{Request}
use Rattle.flusher.specs.Heard.{ArePut}
use Rattle.flusher.specs.Submitted.{are_submitted, is_ended}

-- one command more
pub one_more_submitted : (xs : List Entry) (r : Request) → are_submitted xs ≡ true → are_submitted (xs ++ Submitted r ∷ []) ≡ true
one_more_submitted [] r h = refl
one_more_submitted (Submitted x ∷ xs) r h = one_more_submitted xs r h
one_more_submitted (Ended s ∷ xs) r h = absurd (true≢false (sym h))

-- several commands more
pub more_submitted : (cs : List (Asked Global)) (old new : List Entry) → ArePut cs old new → are_submitted old ≡ true → are_submitted new ≡ true
more_submitted [] old new p h = subst (λ l. are_submitted l ≡ true) (sym p) h
more_submitted (c ∷ cs) old new p h =
    more_submitted cs p.0 new p.2 (subst (λ l. are_submitted l ≡ true) (sym p.1.2) (one_more_submitted old p.1.0 h))

-- so many entries more
pub put_count : (cs : List (Asked Global)) (old new : List Entry) → ArePut cs old new → length new ≡ length old + length cs
put_count [] old new p = omega (arith, ap length p)
put_count (c ∷ cs) old new p = omega (arith, ap length p.1.2, length-append old (Submitted p.1.0 ∷ []), put_count cs p.0 new p.2)

-- the end after the commands
pub then_ended : (xs : List Entry) (s : Station) → are_submitted xs ≡ true → is_ended (xs ++ Ended s ∷ []) ≡ true
then_ended [] s h = refl
then_ended (Submitted x ∷ xs) s h = then_ended xs s h
then_ended (Ended t ∷ xs) s h = absurd (true≢false (sym h))
