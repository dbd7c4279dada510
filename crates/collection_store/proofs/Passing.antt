-- A modifier's refusal as that of an operation.
use Rattle.std.proofs.Common.{Err, ap}
use Rattle.value_model.specs.Val.{Entries}
use Rattle.modifier_apply.specs.declared.fault.ApplyFault.{ApplyFault}
use Rattle.modifier_apply.specs.declared.fault.ApplyFault.TheVariants as apply
use Rattle.modifier_apply.specs.Modified as modifier
use Rattle.modifier_apply.specs.Modified.{refusal_number}
use Rattle.collection_store.specs.Outcome.{Gives}
use Rattle.collection_store.specs.Applied.{by_number, or_refused}

-- a modifier's refusal, by its number
pub refused_as : (e : ApplyFault) (outcome : modifier.Outcome Entries) → modifier.Gives (λ (doc : Entries). doc) (Err e) outcome → Gives (λ (doc : Entries). doc) (Err (by_number (refusal_number e))) (or_refused outcome)
refused_as apply.NotNumber outcome is = ap or_refused is
refused_as apply.NotArray outcome is = ap or_refused is
refused_as apply.PathBlocked outcome is = ap or_refused is
refused_as apply.IdChange outcome is = ap or_refused is
refused_as apply.NumberRange outcome is = ap or_refused is
refused_as apply.Conflict outcome is = ap or_refused is
refused_as apply.Memory outcome is = tt
