-- Laws of lists of changes.
use Rattle.std.specs.Prelude.{◌≡◌, Bool, true, false, cond, List, [], ◌∷◌, ◌++◌, Option, Some, None, unwrap_or, refl}
use Rattle.std.specs.Option.{option_or}
use Rattle.std.specs.declared.cmp.Ordering.{Ordering}
use Rattle.std.specs.Ordering.{eq_by_cmp}
use Rattle.std.proofs.Common.{sym, ap, ◌∙◌, subst}
use Rattle.map_model.specs.Maps.{at, set, IsSorted, IsKeyOrder}
use Rattle.map_model.specs.MapLaws.{at-set, sorted-set}
use Rattle.map_model.specs.Changes.{Change, changed, Fit, Leads, last_at}

module _ {K X : Type 0} (R : K → K → Ordering) where
  -- one list after another
  pub changed-append : (a : List (K × X)) (cs ds : List (Change K X)) → changed R a (cs ++ ds) ≡ changed R (changed R a cs) ds
  changed-append a [] ds = refl
  changed-append a (c ∷ cs) ds = changed-append (set R a c.key c.after) cs ds

  pub Fit-append : (a : List (K × X)) (cs ds : List (Change K X)) → Fit R a cs → Fit R (changed R a cs) ds → Fit R a (cs ++ ds)
  Fit-append a [] ds f g = g
  Fit-append a (c ∷ cs) ds f g = (f.0, Fit-append (set R a c.key c.after) cs ds f.1 g)

  -- the changes of several entries lead on from one another
  pub Leads-append : (cs ds : List (Change K X)) (a b c : List (K × X)) → Leads R cs a b → Leads R ds b c → Leads R (cs ++ ds) a c
  Leads-append cs ds a b c f g = record {
    fit = Fit-append a cs ds f.fit (subst (λ m. Fit R m ds) (sym f.ends) g.fit);
    ends = changed-append a cs ds ∙ ap (λ m. changed R m ds) f.ends ∙ g.ends;
  }

  -- no changes lead nowhere
  pub Leads-nil : (a : List (K × X)) → Leads R [] a a
  Leads-nil a = record { fit = tt; ends = refl }

  -- one change that fits
  pub Leads-one : (a : List (K × X)) (c : Change K X) → at R a c.key ≡ c.before → Leads R (c ∷ []) a (set R a c.key c.after)
  Leads-one a c fits = record { fit = (fits, tt); ends = refl }

module _ {K X : Type 0} {R : K → K → Ordering} (o : IsKeyOrder R) where
  pub sorted-changed : (a : List (K × X)) (cs : List (Change K X)) → IsSorted R a → IsSorted R (changed R a cs)
  sorted-changed a [] s = s
  sorted-changed a (c ∷ cs) s = sorted-changed (set R a c.key c.after) cs (sorted-set o a c.key c.after s)

  last_step : (later : Option (Option X)) (b : Bool) (w old : Option X) →
      unwrap_or later (cond b w old) ≡ unwrap_or (option_or later (cond b (Some w) None)) old
  last_step None true w old = refl
  last_step None false w old = refl
  last_step (Some v) b w old = refl

  -- the last change at a key decides
  pub at-changed : (a : List (K × X)) (cs : List (Change K X)) (q : K) → IsSorted R a → at R (changed R a cs) q ≡ unwrap_or (last_at R q cs) (at R a q)
  at-changed a [] q s = refl
  at-changed a (c ∷ cs) q s =
      at-changed (set R a c.key c.after) cs q (sorted-set o a c.key c.after s)
      ∙ ap (unwrap_or (last_at R q cs)) (at-set o a c.key c.after q s)
      ∙ last_step (last_at R q cs) (eq_by_cmp R q c.key) c.after (at R a q)
