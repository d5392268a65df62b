-- `of` makes a value that owns nothing. Assumes `Logic`.
use Rattle.std.proofs.Common.{◌≡◌, List, [], ◌∷◌, ◌++◌, refl, sym, subst}
use mir.Syntax.{a_type, dcons, dnil}
use mir.Val.{Val, vptr}
use mir.MapTy.{inst_fn}
use base.Logic.{SProp, ent, emp, id⊢}
use prog.Wp.{WpFn}
use types.Kit.{‵, raw, ◌⊛◌, ◌$◌, ◌∵◌, !, qed, by, keep, split, fjoin, suffices, use0}
use types.Run.{no_more, and_then, returns, enter}
use types.ByLocal.{alloc_all, pass_all, free_all, look_at, get, sets}
use types.Part.{agg}
use contract.Monad.{fact, fact_i}
use contract.Running.{tables}
use denote.Exit.{yes}
use denote.RattleType.{RattleType, owns}
use denote.Signature.{types_at, type_at, plain}
use denote.Builtin.{RefOf}
use denote.Steps.{nothing}
use denote.Param.{param, bounded}
use denote.Triple.Entry.{alive}
use denote.Triple.Walked.{Stays, stay_dropped, walk_of, Goes-dropped}
use Rattle.std.specs.contracts.alloc.Global as Heap
use Rattle.std.specs.contracts.impls.GlobalAllocator.TheImpl.{ghosts}
use Rattle.recovery.specs.contracts.store.Store as store
use Rattle.std.proofs.raw_atomic.Walks.{proved_at, leaves}
use Rattle.flusher.proofs.Moments.{Data, made, token}
use Rattle.flusher.specs.contracts.moment.Moment.of.{ended, clauses}
use Rattle.flusher.specs.contracts.moment.Moment.of.Key.{name as #self}
use Rattle.flusher.proofs.moment.Moment.of.Statement.{statement}
use Rattle.flusher.proofs.moment.Moment.of.Code as code

pub of_spec : {M : Type 1} → statement M
of_spec 𝓤 𝓛 𝓜 𝓡 wired T L g d met =
    let H = 𝓛.H in let 𝓣 = tables 𝓤 H 𝓜 𝓡 𝓡.env in let R : RattleType = store.the_row Heap.the_row (param 0 T) g ghosts in let En = ended T g d in let c = clauses T g d 𝓛 𝓜.mem 𝓡.returns in
    let inst = bounded (a_type ∷ []) (T, tt) (dcons d dnil) in let fn = inst_fn inst code.function in
    let hs : Stays En.signature.params En.kept = (stay_dropped (RefOf (0 ∷ []) tt (plain (λ _. R)) (λ _. tt)) yes, tt) in
    proved_at 𝓛 En hs c 𝓜 𝓡 (Goes-dropped 𝓛 2 (RefOf (0 ∷ []) tt (plain (λ _. R)) (λ _. tt)) yes (λ κs x f. refl), tt) (#self inst) fn (code.unfolded 𝓤 H 𝓜 𝓡 wired (T, tt) d) (λ z are.
    let κs = z.0.0 in let qs = z.0.1 in let Post : Val → SProp 𝓤 = (walk_of 𝓛 En hs c).post z in let Run : List Val → SProp 𝓤 = λ ws.
    WpFn 𝓤 H 𝓣.C 𝓣.Λ fn ws Post in let Out : RattleType = type_at En.signature.result κs in
    let at : Val = vptr z.0.3.0.ref_ptr.0 z.0.3.0.ref_ptr.1 in let n : Out.Denot =
    record { marker = record {}; tick = (g.view z.0.3.0.now.disk).moment } in let Noted : Type 0 = n.tick ≡ (g.view z.0.3.0.now.disk).moment in
    qed 𝓛 ((raw (alive 𝓛 En.signature κs qs) ⊛ ‵ (owns (types_at En.signature.params κs) z.0.3 z.0.4)) ∷ raw ((c κs z.0.3).requires z.1) ∷ []) ∵ split ! $ keep ! (0 ∷ []) $
    suffices ! (Run (at ∷ [])) (subst (λ (us : List Val). ent 𝓤 (Run (at ∷ [])) (Run us)) (sym (λ i. are.0.0 i ++ [])) (id⊢ 𝓤 (Run (at ∷ [])))) $
    enter ! 𝓣.C 𝓣.Λ fn (at ∷ []) Post $ alloc_all !
    (λ l. pass_all ! refl ((tt, tt), tt) $ nothing ! $ sets ! (agg ! (no_more !)) refl (tt, tt) $ sets !
    (agg ! (and_then ! (get ! refl) (no_more !))) refl (tt, (tt, tt)) $ use0 𝓛 (‵ Data) (made 𝓛) $ fjoin ! $
    use0 𝓛 (raw (fact 𝓤 Noted)) (fact_i 𝓤 Noted (emp 𝓤) refl) $ nothing ! $ nothing ! $ fjoin ! $
    returns ! (look_at ! 0 refl) $ free_all ! refl $ keep ! (3 ∷ 0 ∷ 2 ∷ 1 ∷ []) $ by ! (leaves 𝓛 En hs c z token n (tt, tt) (tt, tt))))
