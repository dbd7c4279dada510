-- Laws of the log of a history.
use Rattle.std.specs.Prelude.{◌≡◌, ℕ, zero, suc, List, [], ◌∷◌, ◌++◌, length, take, drop, refl}
use Rattle.std.proofs.Common.{ap, sym, ◌∙◌}
use Rattle.map_model.specs.MapLaws.{sorted-nil}
use Rattle.ejson_value.specs.declared.change.Change.{Change}
use Rattle.ejson_value.specs.Key.{key_cmp}
use Rattle.history_model.specs.declared.entry.Entry.{Entry}
use Rattle.history_model.specs.History.{Programs, Held, nothing, carried, held_from, held, held_at, changes_by, changes_from, changes_between}
use Rattle.history_model.specs.HistoryLaws.{from_leads}
use Rattle.history_log.specs.declared.log.Logged.{Logged}
use Rattle.history_log.specs.Log.{entries_in, changes_in, changes_behind, rows_by, rows_after, settled}
use Rattle.history_log.specs.LogLaws.{settled-push}
use Rattle.store_machine.specs.LogOf.{logged_from, log_of}

entries_from : (app : Programs) (h : Held) (es : List Entry) → entries_in (logged_from app h es) ≡ es
entries_from app h [] = refl
entries_from app h (e ∷ es) = ap (λ fs. e ∷ fs) (entries_from app (carried app h e) es)

length_from : (app : Programs) (h : Held) (es : List Entry) → length (logged_from app h es) ≡ length es
length_from app h [] = refl
length_from app h (e ∷ es) = ap suc (length_from app (carried app h e) es)

pub length-log_of : (app : Programs) (history : List Entry) → length (log_of app history) ≡ length history
length-log_of app history = length_from app nothing history

-- its entries are those of the history
pub entries_in-log_of : (app : Programs) (history : List Entry) → entries_in (log_of app history) ≡ history
entries_in-log_of app history = entries_from app nothing history

logged_from-append : (app : Programs) (h : Held) (es fs : List Entry) →
    logged_from app h (es ++ fs) ≡ logged_from app h es ++ logged_from app (held_from app h es) fs
logged_from-append app h [] fs = refl
logged_from-append app h (e ∷ es) fs = ap (λ ls. record { entry = e; changes = changes_by app h e } ∷ ls) (logged_from-append app (carried app h e) es fs)

-- one entry more, with what it makes of what is held
pub log_of-append : (app : Programs) (history : List Entry) (e : Entry) →
    log_of app (history ++ e ∷ []) ≡ log_of app history ++ record { entry = e; changes = changes_by app (held app history) e } ∷ []
log_of-append app history e = logged_from-append app nothing history (e ∷ [])

-- so a log with an entry behind it is that of the longer history, once the entry's changes are set
pub log_of-settled : (app : Programs) (history : List Entry) (e : Entry) (before changes : List Change) →
    changes ≡ changes_by app (held app history) e →
    settled (log_of app history ++ record { entry = e; changes = before } ∷ []) changes ≡ log_of app (history ++ e ∷ [])
log_of-settled app history e before changes are =
    settled-push (log_of app history) (record { entry = e; changes = before }) changes
    ∙ (ap (λ cs. log_of app history ++ record { entry = e; changes = cs } ∷ []) are ∙ sym (log_of-append app history e))

changes_in-from : (app : Programs) (h : Held) (es : List Entry) → changes_in (logged_from app h es) ≡ changes_from app h es
changes_in-from app h [] = refl
changes_in-from app h (e ∷ es) = ap (λ cs. changes_by app h e ++ cs) (changes_in-from app (carried app h e) es)

drop-logged : (app : Programs) (h : Held) (n : ℕ) (es : List Entry) → drop n (logged_from app h es) ≡ logged_from app (held_from app h (take n es)) (drop n es)
drop-logged app h zero es = refl
drop-logged app h (suc n) [] = refl
drop-logged app h (suc n) (e ∷ es) = drop-logged app (carried app h e) n es

take-logged : (app : Programs) (h : Held) (n : ℕ) (es : List Entry) → take n (logged_from app h es) ≡ logged_from app h (take n es)
take-logged app h zero es = refl
take-logged app h (suc n) [] = refl
take-logged app h (suc n) (e ∷ es) = ap (λ ls. record { entry = e; changes = changes_by app h e } ∷ ls) (take-logged app (carried app h e) n es)

-- its changes behind a place are those of the history
pub changes_behind-log_of : (app : Programs) (history : List Entry) (place count : ℕ) →
    changes_behind (log_of app history) place count ≡ changes_between app history place count
changes_behind-log_of app history place count =
    let before = held_at app history place in
    ap (λ ls. changes_in (take count ls)) (drop-logged app nothing place history)
    ∙ (ap changes_in (take-logged app before count (drop place history)) ∙ changes_in-from app before (take count (drop place history)))

-- they lead to the documents of each place
pub rows_after-log_of : (app : Programs) (history : List Entry) (place : ℕ) → rows_after (log_of app history) place ≡ (held_at app history place).rows
rows_after-log_of app history place =
    ap (λ ls. rows_by (changes_in ls)) (take-logged app nothing place history)
    ∙ (ap rows_by (changes_in-from app nothing (take place history)) ∙ (from_leads app nothing (take place history) (sorted-nil key_cmp)).ends)
