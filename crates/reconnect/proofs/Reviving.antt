-- Texts are given in parts, one behind another.
use Rattle.std.specs.Prelude.{◌≡◌, ℕ, List, [], ◌∷◌, ◌++◌, map, Bool, true, false, cond, not, ◌&&◌, Option, None, Result, Ok, Err, OnOk, refl}
use Rattle.std.proofs.Common.{sym, ap, ◌∙◌}
use Rattle.std.proofs.lemmas.List.{append_assoc}
use Rattle.ddp_messages.specs.ServerMessage.{ServerMessage}
use Rattle.ddp_messages.specs.Answers.{server_answer}
use Rattle.reconnect_model.specs.Revival.{Revival}
use Rattle.ddp_messages.specs.Texts.{server_text}
use Rattle.reconnect_model.specs.Giving.{Heard, settled, all_settled, half_done, half_ended, left_unsaid, updated_before, made_ready, differences, released, revived, revived_then, revived_when, lacks_nothing, is_answered, noted, passed, refused_by, text_refusal, heard_unless}
use Rattle.reconnect.specs.Giving.{Gives, updates_of, ends_of, rest_of}
use Rattle.reconnect.proofs.Hearing.{heard_is}

-- ---- what the sessions that are gone were to say

all_behind : (r : Revival) (xs ys : List ServerMessage) → all_settled r (xs ++ ys) ≡ all_settled (all_settled r xs) ys
all_behind r [] ys = refl
all_behind r (m ∷ xs) ys = all_behind (settled r m) xs ys

texts_behind : (xs ys : List ServerMessage) → map server_text (xs ++ ys) ≡ map server_text xs ++ map server_text ys
texts_behind [] ys = refl
texts_behind (m ∷ xs) ys = ap (λ ts. server_text m ∷ ts) (texts_behind xs ys)

both_unsaid : (r : Revival) (us es : List (List ℕ)) → us ≡ half_done r.calls → es ≡ half_ended r.begun r.ended → updates_of us ++ ends_of es ≡ left_unsaid r
both_unsaid r us es is_us is_es = ap (λ ids. updates_of ids ++ ends_of es) is_us ∙ ap (λ ids. updates_of (half_done r.calls) ++ ends_of ids) is_es

rest_gives : (r ready a b new : Revival) (us es before held t0 t1 t2 t3 : List (List ℕ)) → held ≡ r.held → ready ≡ made_ready r → us ≡ half_done r.calls → es ≡ half_ended r.begun r.ended → before ≡ updated_before r.calls →
    a ≡ all_settled ready (updates_of us) → t1 ≡ t0 ++ map server_text (updates_of us) → b ≡ all_settled a (ends_of es) → t2 ≡ t1 ++ map server_text (ends_of es) →
    Gives (released before b held) new t2 t3 → Gives (rest_of r) new t0 t3
rest_gives r ready a b new us es before held t0 t1 t2 t3 is_held is_ready is_us is_es is_before is_a is_t1 is_b is_t2 gives =
    let left = left_unsaid r in
    let state : b ≡ all_settled (made_ready r) left =
    is_b ∙ (ap (λ q. all_settled q (ends_of es)) is_a
    ∙ (sym (all_behind ready (updates_of us) (ends_of es))
    ∙ (ap (λ q. all_settled q (updates_of us ++ ends_of es)) is_ready ∙ ap (λ ms. all_settled (made_ready r) ms) (both_unsaid r us es is_us is_es)))) in
    let texts : t2 ≡ t0 ++ map server_text left =
    is_t2 ∙ (ap (λ ts. ts ++ map server_text (ends_of es)) is_t1
    ∙ (append_assoc t0 (map server_text (updates_of us)) (map server_text (ends_of es))
    ∙ (ap (λ ts. t0 ++ ts) (sym (texts_behind (updates_of us) (ends_of es))) ∙ ap (λ ms. t0 ++ map server_text ms) (both_unsaid r us es is_us is_es)))) in
    let same : released before b held ≡ released (updated_before r.calls) (all_settled (made_ready r) left) r.held =
    ap (λ ids. released ids b held) is_before ∙ (ap (λ q. released (updated_before r.calls) q held) state ∙ ap (λ hs. released (updated_before r.calls) (all_settled (made_ready r) left) hs) is_held) in
    let rest = released (updated_before r.calls) (all_settled (made_ready r) left) r.held in (
      gives.0 ∙ ap (λ (h : Heard). h.revival) same,
      gives.1 ∙ (ap (λ (h : Heard). t2 ++ h.texts) same ∙ (ap (λ ts. ts ++ rest.texts) texts ∙ append_assoc t0 (map server_text left) rest.texts)),
    )

pub rest_given : {X E : Type 0} (r ready a b new : Revival) (us es before held t0 t1 t2 t3 : List (List ℕ)) (result : Result X E) → held ≡ r.held → ready ≡ made_ready r → us ≡ half_done r.calls → es ≡ half_ended r.begun r.ended →
    before ≡ updated_before r.calls → a ≡ all_settled ready (updates_of us) → t1 ≡ t0 ++ map server_text (updates_of us) → b ≡ all_settled a (ends_of es) → t2 ≡ t1 ++ map server_text (ends_of es) →
    OnOk result (Gives (released before b held) new t2 t3) → OnOk result (Gives (rest_of r) new t0 t3)
rest_given r ready a b new us es before held t0 t1 t2 t3 (Ok x) is_held is_ready is_us is_es is_before is_a is_t1 is_b is_t2 gives =
    rest_gives r ready a b new us es before held t0 t1 t2 t3 is_held is_ready is_us is_es is_before is_a is_t1 is_b is_t2 gives
rest_given r ready a b new us es before held t0 t1 t2 t3 (Err e) is_held is_ready is_us is_es is_before is_a is_t1 is_b is_t2 gives = tt

-- ---- the reset

revived_gives : (r new : Revival) (t0 t1 t2 : List (List ℕ)) → t1 ≡ t0 ++ differences r.given r.copy → Gives (rest_of r) new t1 t2 → Gives (revived r) new t0 t2
revived_gives r new t0 t1 t2 is gives =
    let first = differences r.given r.copy in
    let left = map server_text (left_unsaid r) in
    let rest = released (updated_before r.calls) (all_settled (made_ready r) (left_unsaid r)) r.held in (
      gives.0,
      gives.1 ∙ (ap (λ ts. ts ++ (left ++ rest.texts)) is ∙ (append_assoc t0 first (left ++ rest.texts) ∙ ap (λ ts. t0 ++ ts) (sym (append_assoc first left rest.texts)))),
    )

pub revived_given : {X E : Type 0} (r new : Revival) (t0 t1 t2 : List (List ℕ)) (result : Result X E) → t1 ≡ t0 ++ differences r.given r.copy → OnOk result (Gives (rest_of r) new t1 t2) → OnOk result (Gives (revived r) new t0 t2)
revived_given r new t0 t1 t2 (Ok x) is gives = revived_gives r new t0 t1 t2 is gives
revived_given r new t0 t1 t2 (Err e) is gives = tt

-- ---- behind a text by which all is answered

when_gives : (h : Heard) (mid new : Revival) (t0 t1 t2 : List (List ℕ)) → mid ≡ h.revival → t1 ≡ t0 ++ h.texts → mid.is_revived ≡ false → mid.is_connected ≡ true → lacks_nothing mid.lacking ≡ true →
    Gives (revived mid) new t1 t2 → Gives (revived_when h) new t0 t2
when_gives h mid new t0 t1 t2 is is_t1 off on over gives =
    let answered : (not h.revival.is_revived && is_answered h.revival) ≡ true =
    ap (λ (r : Revival). not r.is_revived && is_answered r) (sym is)
    ∙ (ap (λ b. not b && is_answered mid) off ∙ (ap (λ b. b && lacks_nothing mid.lacking) on ∙ over)) in
    let whole : revived_when h ≡ revived_then h = ap (λ (b : Bool). cond b (revived_then h) h) answered in
    let then : revived mid ≡ revived h.revival = ap revived is in (
      gives.0 ∙ (ap (λ (x : Heard). x.revival) then ∙ sym (ap (λ (x : Heard). x.revival) whole)),
      gives.1 ∙ (ap (λ (x : Heard). t1 ++ x.texts) then ∙ (ap (λ ts. ts ++ (revived h.revival).texts) is_t1
          ∙ (append_assoc t0 h.texts (revived h.revival).texts ∙ sym (ap (λ (x : Heard). t0 ++ x.texts) whole)))),
    )

pub when_given : {X E : Type 0} (h : Heard) (mid new : Revival) (t0 t1 t2 : List (List ℕ)) (result : Result X E) → mid ≡ h.revival → t1 ≡ t0 ++ h.texts → mid.is_revived ≡ false → mid.is_connected ≡ true → lacks_nothing mid.lacking ≡ true →
    OnOk result (Gives (revived mid) new t1 t2) → OnOk result (Gives (revived_when h) new t0 t2)
when_given h mid new t0 t1 t2 (Ok x) is is_t1 off on over gives = when_gives h mid new t0 t1 t2 is is_t1 off on over gives
when_given h mid new t0 t1 t2 (Err e) is is_t1 off on over gives = tt

-- ---- a text that no rule refuses

pub hears_given : (was r q new : Revival) (text : List ℕ) (m : ServerMessage) (texts : List (List ℕ)) → was ≡ r → ((s : Revival) → text_refusal s text ≡ refused_by s m) → server_answer text ≡ Ok m → refused_by was m ≡ None → q ≡ noted was m →
    revived_when (passed q text m) ≡ record { revival = new; texts = texts } → (text_refusal r text ≡ None) × (new ≡ (heard_unless r text None).revival) × (texts ≡ (heard_unless r text None).texts)
hears_given was r q new text m texts same refuses reads none is gives =
    let h : Heard = record { revival = new; texts = texts } in
    let heard : heard_unless r text None ≡ h = heard_is r q text m h reads (is ∙ ap (λ (s : Revival). noted s m) same) gives in (
      refuses r ∙ (ap (λ (s : Revival). refused_by s m) (sym same) ∙ none),
      sym (ap (λ (x : Heard). x.revival) heard),
      sym (ap (λ (x : Heard). x.texts) heard),
    )
