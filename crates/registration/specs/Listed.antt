-- How radios are listed.
use Rattle.std.specs.Prelude.{List, map}
use Rattle.identity.specs.Numbers.{Itsi}
use Rattle.identity.specs.Path.{Path, id_path}
use Rattle.registration.specs.declared.radio.Radio.{Radio}

-- a radio under the bits of its identity
abbrev pub under_its_bits : Itsi × Radio → Path × Radio
under_its_bits e = (id_path e.0, e.1)

-- each of these under the bits of its identity
abbrev pub under_bits : List (Itsi × Radio) → List (Path × Radio)
under_bits radios = map under_its_bits radios
