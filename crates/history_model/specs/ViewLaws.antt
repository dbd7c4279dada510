-- A value is known by what contracts see of it.
use Rattle.std.specs.Prelude.{◌≡◌}
use Rattle.std.proofs.Common.{ap, sym, ◌∙◌}
use Rattle.ejson_value.specs.declared.value.Value.{Value}
use Rattle.ejson_value.specs.View.{view}
use Rattle.ejson_value.specs.Code.{held, held-view}

pub view-injective : (v w : Value) → view v ≡ view w → v ≡ w
view-injective v w e = sym (held-view v) ∙ (ap held e ∙ held-view w)
