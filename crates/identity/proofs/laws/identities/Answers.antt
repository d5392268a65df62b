use Rattle.identity.proofs.Identities.{bits_of_fields, fields_of_number, number_of_fields}
use Rattle.identity.proofs.laws.identities.Goals as goal

pub returns-clause-bits : goal.returns-clause-bits
returns-clause-bits c = bits_of_fields

pub returns-clause-fields : goal.returns-clause-fields
returns-clause-fields c = fields_of_number

pub returns-clause-whole : goal.returns-clause-whole
returns-clause-whole c = number_of_fields
