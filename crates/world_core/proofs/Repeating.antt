-- An act that is made again and again, and acts that are made one after another.
use Rattle.std.proofs.Common.{get_or}
use Rattle.std.specs.Prelude.{◌≡◌, ℕ, zero, suc, ◌+◌, ◌<◌, List, [], ◌∷◌, ◌++◌, length, take, drop, replicate, Bool, true, false, not, ◌&&◌, refl}
use Rattle.std.proofs.Common.{ap, sym, subst, ◌∙◌, arith}
use Rattle.std.proofs.Math.Seq.{take-suc, drop-cons}
use Rattle.app_model.specs.App.{App}
use Rattle.rounds_model.specs.Rounds.{made, none_of}
use Rattle.connection.specs.world_model.declared.events.Act.{Act}
use Rattle.connection.specs.world_model.declared.events.Act.TheVariants as act
use Rattle.world_rounds_laws.specs.Visits.{Side, can_on, act_on}
use Rattle.world_rounds_laws.specs.VisitsLaws.{act_none}
use Rattle.world_rounds_laws.specs.Loops.{IsLoop}
use Rattle.world_rounds_laws.specs.LoopsLaws.{ups_lower, recvs_lower, handles_lower, sends_lower, takes_lower, loop_begins, loop_goes_on, loop_ends}
use Rattle.world_rounds_laws.specs.StepsLaws.{step_lowers}
use Rattle.world_core.specs.Visit.{AVisit, side, IsReady, IsLed, IsSame, AreMade}
use Rattle.world_core.specs.Acting.{IsMade, IsLeft, is_repeatable, count_of}
use Rattle.world_core.proofs.PhaseVisits.{side_same, same_on, same_itself, led_none, led_left, led_on, none_both, none_one}

-- ---- the next of a list

pub next_drop : {A : Type 0} (xs : List A) (i : ℕ) (d : A) → i < length xs → drop i xs ≡ get_or xs i d ∷ drop (i + 1) xs
next_drop xs i d less = let e : suc i ≡ i + 1 = omega arith in drop-cons xs i d less ∙ ap (λ n. get_or xs i d ∷ drop n xs) e

pub next_take : {A : Type 0} (xs : List A) (i : ℕ) (d : A) → i < length xs → take (i + 1) xs ≡ take i xs ++ get_or xs i d ∷ []
next_take xs i d less = let e : i + 1 ≡ suc i = omega arith in ap (λ n. take n xs) e ∙ take-suc xs i d less

-- ---- again and again

counts_lower : (app : App) (x : Side) (a : Act) → is_repeatable a ≡ true → can_on app x a ≡ true → count_of app a (act_on app a x) < count_of app a x
counts_lower app x act.Up again may = ups_lower app x may
counts_lower app x act.Recv again may = recvs_lower app x may
counts_lower app x act.Handle again may = handles_lower app x may
counts_lower app x act.Begin again may = cc again
counts_lower app x (act.Step k) again may = step_lowers app x k may
counts_lower app x (act.Learn k at) again may = cc again
counts_lower app x (act.Load sub at) again may = cc again
counts_lower app x (act.Advance sub count) again may = cc again
counts_lower app x act.Send again may = sends_lower app x may
counts_lower app x act.Take again may = takes_lower app x may

-- made again and again so far
pub record IsAgain (a : Act) (v w : AVisit) (flag : Bool) : Type 0 where
  pub led : IsLed v w
  pub loop : IsLoop v.machine.app (count_of v.machine.app a) a (side v) (side w)
  pub none : flag ≡ false → IsSame v w

-- how much there is left
abbrev pub left_for : Act → AVisit → ℕ
left_for a w = count_of w.machine.app a (side w)

module _ (a : Act) where
  pub again_begins : (v : AVisit) → IsReady v → IsAgain a v v false
  again_begins v r = record { led = led_none v r; loop = loop_begins v.machine.app (count_of v.machine.app a) a (side v); none = λ e. same_itself v }

  -- it leaves less
  pub again_less : (w x : AVisit) → is_repeatable a ≡ true → IsMade a w x → left_for a x < left_for a w
  again_less w x again m =
      subst (λ (app : App). count_of app a (side x) < left_for a w) (sym m.led.app)
      (subst (λ (s : Side). count_of w.machine.app a s < left_for a w) m.leads (counts_lower w.machine.app (side w) a again m.can))

  pub again_on : (v w x : AVisit) (flag : Bool) → is_repeatable a ≡ true → IsAgain a v w flag → IsMade a w x → IsAgain a v x true
  again_on v w x flag again i m =
      let app = v.machine.app in
      let may : can_on app (side w) a ≡ true = subst (λ (p : App). can_on p (side w) a ≡ true) i.led.app m.can in
      let to : act_on app a (side w) ≡ side x = subst (λ (p : App). act_on p a (side w) ≡ side x) i.led.app m.leads in
      record {
        led = led_on v w x i.led m.led;
        loop = subst (λ (s : Side). IsLoop app (count_of app a) a (side v) s) to (loop_goes_on app (count_of app a) a (side v) (side w) i.loop (counts_lower app (side w) a again may));
        none = λ e. cc e;
      }

  none_often : (app : App) (n : ℕ) (s : Side) → can_on app s a ≡ false → none_of (can_on app) (replicate n a) s ≡ true
  none_often app zero s off = refl
  none_often app (suc n) s off = ap (λ b. not b && none_of (can_on app) (replicate n a) s) off ∙ none_often app n s off

  pub again_ends : (v w x : AVisit) (flag : Bool) → IsAgain a v w flag → IsLeft w x → can_on w.machine.app (side w) a ≡ false → AreMade (replicate (count_of v.machine.app a (side v)) a) v x flag
  again_ends v w x flag i l off =
      let app = v.machine.app in
      let off_ : can_on app (side w) a ≡ false = subst (λ (p : App). can_on p (side w) a ≡ false) i.led.app off in
      record {
        led = led_on v w x i.led (led_left w x l);
        leads = loop_ends app (count_of app a) a (side v) (side w) i.loop off_ ∙ side_same w x l.same;
        none = λ e.
            let s = i.none e in
            (same_on v w x s l.same, none_often app (count_of app a (side v)) (side v) (subst (λ (t : Side). can_on app t a ≡ false) (sym (side_same v w s)) off_));
      }

-- ---- one after another

-- the first so many of the acts are made
pub record AreMadeTill (acts : List Act) (i : ℕ) (v w : AVisit) (flag : Bool) : Type 0 where
  pub led : IsLed v w
  pub rest : made (act_on v.machine.app) (drop i acts) (side w) ≡ made (act_on v.machine.app) acts (side v)
  pub none : flag ≡ false → IsSame v w × (none_of (can_on v.machine.app) (take i acts) (side v) ≡ true)

module _ (acts : List Act) where
  pub each_begins : (v : AVisit) → IsReady v → AreMadeTill acts 0 v v false
  each_begins v r = record { led = led_none v r; rest = refl; none = λ e. (same_itself v, refl) }

  module _ (i : ℕ) (a : Act) (first : drop i acts ≡ a ∷ drop (i + 1) acts) (more : take (i + 1) acts ≡ take i acts ++ a ∷ []) (v w x : AVisit) (flag : Bool) (t : AreMadeTill acts i v w flag) where
    abbrev app : App
    app = v.machine.app

    next_is : (s : Side) → act_on app a (side w) ≡ s → made (act_on app) (drop (i + 1) acts) s ≡ made (act_on app) acts (side v)
    next_is s e = ap (made (act_on app) (drop (i + 1) acts)) (sym e) ∙ (ap (λ (as_ : List Act). made (act_on app) as_ (side w)) (sym first) ∙ t.rest)

    pub each_made : IsMade a w x → AreMadeTill acts (i + 1) v x true
    each_made m = record {
      led = led_on v w x t.led m.led;
      rest = next_is (side x) (subst (λ (p : App). act_on p a (side w) ≡ side x) t.led.app m.leads);
      none = λ e. cc e;
    }

    pub each_left : IsLeft w x → can_on w.machine.app (side w) a ≡ false → AreMadeTill acts (i + 1) v x flag
    each_left l off =
        let off_ : can_on app (side w) a ≡ false = subst (λ (p : App). can_on p (side w) a ≡ false) t.led.app off in
        record {
          led = led_on v w x t.led (led_left w x l);
          rest = next_is (side x) (act_none app a (side w) off_ ∙ side_same w x l.same);
          none = λ e.
              let s = t.none e in (
                same_on v w x s.0 l.same,
                ap (λ (as_ : List Act). none_of (can_on app) as_ (side v)) more
                    ∙ none_both (can_on app) (take i acts) (a ∷ []) (side v) s.1 (none_one (can_on app) a (side v) (subst (λ (y : Side). can_on app y a ≡ false) (sym (side_same v w s.0)) off_)),
              );
        }
