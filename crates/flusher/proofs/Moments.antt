-- A moment has no bytes and owns nothing. Assumes `Logic`.
use Rattle.std.proofs.Common.{[], ◌∷◌, refl}
use seplogic.Ra.Ura.{Ura}
use mir.Val.{Val, vstruct, vcons, vnil}
use base.Logic.{ent, emp}
use base.Fml.{Fml}
use types.Logic.{Logic, sem}
use denote.Shadow.{makes_shadow}
use denote.Struct.Struct.{Struct}
use denote.Struct.Owning.{shape}
use Rattle.flusher.specs.contracts.moment.Moment as moment

abbrev pub token : Val
token = vstruct (vcons (vstruct vnil) vnil)

abbrev pub Data : Fml
Data = (Struct (shape moment.the_type)).own_val (tt, tt) (token ∷ [])

module _ {M : Type 1} {𝓤 : Ura M} (𝓛 : Logic 𝓤) where
  pub made : ent 𝓤 (emp 𝓤) (sem 𝓛 Data)
  made = makes_shadow 𝓛 Data (λ vss. (tt, ((λ uss. (tt, tt)), tt))) ((vstruct vnil ∷ [], tt), (refl, ((tt, (refl, tt)), tt)))
