-- Commands that a session submits together, as a desk does them.
use Rattle.std.proofs.Common.{◌≡◌, inl, suc, Bool, true, List, [], ◌∷◌, ◌++◌, length, refl, ap, sym, subst}
use Rattle.std.specs.Prelude.{All, IfOk, map}
use Rattle.std.specs.List.{AllByRecursion}
use Rattle.std.proofs.lemmas.List.Elements.{recursion_from_All}
use Rattle.std.specs.declared.alloc.Global.{Global}
use Rattle.base.proofs.Lists.{all_after}
use Rattle.registration.specs.Numbers.{Station}
use Rattle.centre_core.specs.Asked.{Asked}
use Rattle.centre_core.specs.State.{State}
use Rattle.desk.specs.Replies.{HasShortPdu}
use Rattle.desk.specs.Rules.{AreApplied}
use Rattle.flusher.specs.declared.answer.Answer.{Answer}
use Rattle.flusher.specs.declared.answer.Answer.TheVariants as answer
use Rattle.flusher.specs.Submitted.{AreSubmissions, HasShortAnswer, SessionView}
use Rattle.stations.specs.OfSession.{of_session, result_of}
use Rattle.stations.specs.Orders.{is_allowed}

abbrev G : Type 0
G = Asked Global

-- what holds of all holds of the next one
pub next_of_all : {X : Type 0} (P : X → Type 0) (xs ys all zs : List X) (x : X) → xs ++ ys ≡ all → ys ≡ x ∷ zs → All P all → P x
next_of_all {X} P xs ys all zs x split is holds = (subst (AllByRecursion P) is (all_after P xs ys (recursion_from_All P (xs ++ ys) (subst (λ (l : List X). All P l) (sym split) holds)))).0

module _ {J : Type 0} where
  -- the reply in a short answer is short
  pub short_result : (a : Answer J) → HasShortAnswer a → IfOk (result_of a) HasShortPdu
  short_result (answer.Accepted n p published) h = h
  short_result (answer.Kept n p) h = h
  short_result (answer.Refused r) h = h
  short_result answer.NoMemory h = tt
  short_result (answer.Fault f) h = tt
  short_result answer.Closed h = tt

  -- one answer for each command
  pub as_many : (base : State) (cs : List G) (v w : SessionView) (rs : List (Answer J)) → AreSubmissions base cs v w rs → length rs ≡ length cs
  as_many base [] v w [] is = refl
  as_many base [] v w (a ∷ rs) is = absurd is
  as_many base (c ∷ cs) v w [] is = absurd is
  as_many base (c ∷ cs) v w (a ∷ rs) is = ap suc (as_many base cs is.0 w rs is.2)

module _ (J : Type 0) (base : State) (may_order : Bool) (station : Station) where
  -- a command that a session of this station may submit
  abbrev Own : G → Type 0
  Own c = (c.station ≡ station) × (is_allowed may_order c ≡ true)

  go : (cs : List G) (v w : SessionView) (rs : List (Answer J)) → AllByRecursion Own cs → AreSubmissions base cs v w rs →
      AreApplied (of_session J base may_order) (record { station = station; view = v }) cs (map result_of rs) (record { station = station; view = w })
  go [] v w [] all is = λ i. record { station = station; view = is i }
  go [] v w (a ∷ rs) all is = absurd is
  go (c ∷ cs) v w [] all is = absurd is
  go (c ∷ cs) v w (a ∷ rs) all is = (
    record { station = station; view = is.0 },
    (refl, inl (all.0.0, all.0.1, record { answer = a; result_is = refl; submission = is.1 })),
    go cs is.0 w rs all.1 is.2,
  )

  pub applied_together : (cs : List G) (v w : SessionView) (rs : List (Answer J)) → All Own cs → AreSubmissions base cs v w rs →
      AreApplied (of_session J base may_order) (record { station = station; view = v }) cs (map result_of rs) (record { station = station; view = w })
  applied_together cs v w rs all is = go cs v w rs (recursion_from_All Own cs all) is
