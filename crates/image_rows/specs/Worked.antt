-- The bytes of a new register's header; a register with one entry of each kind, and its image.
use Rattle.std.specs.Prelude.{List, [], ◌∷◌, replicate, Some, None}
use Rattle.std.specs.FinMap as map
use Rattle.identity.specs.Numbers.{Itsi, Gtsi, Byte}
use Rattle.identity.specs.Path.{Path, id_path}
use Rattle.registration.specs.declared.limits.Limits.{Limits}
use Rattle.registration.specs.declared.rule.Rule.{Rule}
use Rattle.registration.specs.declared.radio.Radio.{Radio}
use Rattle.group_attach.specs.Attached.{Usage}
use Rattle.mailbox.specs.Values.{Item}
use Rattle.centre_core.specs.State.{State, LastAccepted}
use Rattle.image_rows.specs.Numbers.{Epoch}
use Rattle.image_rows.specs.Rows.{Row, HeaderRow, RuleRow, RadioRow, MailRow, ServedRow, Header}

-- the header of an empty register: nothing but an epoch
abbrev pub bare : Epoch → Header
bare epoch = record { epoch = epoch; count = 0; rules = 0; radios = 0; mail = 0; served = 0 }

-- the bytes of a new register's header: the tag, epoch 1 in 8 bytes, and 24 zeros
abbrev pub new_header : List Byte
new_header = 22 ∷ 0 ∷ 0 ∷ 0 ∷ 0 ∷ 0 ∷ 0 ∷ 0 ∷ 1 ∷ replicate 24 0

-- one rule, one radio in one group, one item, and the last of two stations served; two commands were accepted
module _ (limits : Limits) (prefix : Path) (rule : Rule) (itsi : Itsi) (radio : Radio) (gtsi : Gtsi) (usage : Usage) (item : Item) (last : LastAccepted) where
  -- the register that has them
  abbrev pub one_of_each : State
  one_of_each = record {
    registered = record { limits = limits; rules = map.insert map.empty prefix rule; radios = map.insert map.empty (id_path itsi) radio };
    groups = map.insert map.empty (itsi, gtsi) usage;
    mail = record { room = limits.mail; items = item ∷ [] };
    served = None ∷ Some last ∷ [];
    count = 2;
  }

  -- the rows of its image with this epoch
  abbrev pub its_rows : Epoch → List Row
  its_rows epoch =
      HeaderRow (record { epoch = epoch; count = 2; rules = 1; radios = 1; mail = 1; served = 1 })
      ∷ RuleRow prefix rule
      ∷ RadioRow itsi radio ((gtsi, usage) ∷ [])
      ∷ MailRow item
      ∷ ServedRow 2 last
      ∷ []
