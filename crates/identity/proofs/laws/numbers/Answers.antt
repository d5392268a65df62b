use Rattle.identity.specs.Inside.NumberLaws.{length-num, number-num, num-number}
use Rattle.identity.proofs.laws.numbers.Goals as goal

pub returns-clause-size : goal.returns-clause-size
returns-clause-size c = length-num

pub returns-clause-back : goal.returns-clause-back
returns-clause-back c = number-num

pub returns-clause-whole : goal.returns-clause-whole
returns-clause-whole c = num-number
