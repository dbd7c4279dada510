use Rattle.std.proofs.Common.{arith}
use Rattle.std.proofs.lemmas.Str.{IsUtf8-nil}
use Rattle.ejson_value.proofs.Words.{zeros}
use Rattle.ejson_value.proofs.text.Short.new.Goals as goal

pub invariant_of-result : goal.invariant_of-result
invariant_of-result c = (omega arith, ∣ IsUtf8-nil ∣₁, λ k l. zeros 22 k)
