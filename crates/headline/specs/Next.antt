-- The next text on the link to a client is none that it refuses, but for its length; where there is no more than one `method` for each of its calls.
use Rattle.std.specs.Prelude.{◌≡◌, ℕ, zero, suc, ◌+◌, ◌<◌, ◌≤◌, List, [], ◌∷◌, ◌++◌, length, decimal, slice_get, Bool, true, false, cond, not, ◌&&◌}
use Rattle.std.specs.Prelude.{nat_lt, Option, Some, None, is_some, option_and_then, refl}
use Rattle.std.proofs.Common.{ap, sym, subst, ◌∙◌, arith, append-nil}
use Rattle.std.proofs.lemmas.List.{append_assoc, map-append}
use Rattle.map_model.specs.Differences.{all_taken}
use Rattle.value_model.specs.Val.{Entries}
use Rattle.value_model.specs.Order.{text_cmp}
use Rattle.value_model.specs.Size.{is_name}
use Rattle.view_model.specs.Views.{View}
use Rattle.ejson_value.specs.declared.key.Key.{Key}
use Rattle.ejson_value.specs.Key.{key_cmp}
use Rattle.ejson_value.specs.Rows.{Rows}
use Rattle.ddp_messages.specs.Answers.{server_answer}
use Rattle.ddp_messages.specs.ServerMessage.{ServerMessage}
use Rattle.ddp_messages.specs.ServerMessage as server
use Rattle.app_model.specs.App.{App}
use Rattle.world_invariant_laws.specs.history_model.declared.entry.Entry.{Entry}
use Rattle.client_model.specs.Client.{Call}
use Rattle.client_model.specs.Taking.{max_server_text, number_of, call_at, call_of, result_refusal, awaits_update, updated_refusal, early_refusal}
use Rattle.client_model.specs.Taking.{late_refusal, message_refusal, session_in, documents_in, calls_in, breaks, told_message, told_unless}
use Rattle.client_model.specs.Taking.{told_answer, told_text}
use Rattle.world_invariant_laws.specs.session_model.Texts.{message_in, messages_in}
use Rattle.world_invariant_laws.specs.session_model.Data.{data_in, data_of}
use Rattle.world_invariant_laws.specs.session_model.Out.{out, out_texts}
use Rattle.world_invariant_laws.specs.session_model.Kept.{AreKept}
use Rattle.world_invariant_laws.specs.session_model.Counting.{one_if, result_in, updated_in, results, updateds}
use Rattle.world_invariant_laws.specs.session_journal_laws_for_proofs.Readable.{IsRead, AreRead}
use Rattle.world_invariant_laws.specs.session_journal_laws_for_proofs.ReadableLaws.{out_reads}
use Rattle.world_invariant_laws.specs.session_journal_laws.Taken.{data_of-append, all_taken-append}
use Rattle.world_invariant_laws.specs.session_journal_laws.CountsLaws.{total-append, methods_are_answered}
use Rattle.world_invariant_laws.specs.world_model.Store.{moments}
use Rattle.world_invariant_laws.specs.world_model.Conn.{Conn}
use Rattle.world_invariant_laws.specs.Links.{IsLinked}
use Rattle.headline.specs.Fitting.{late_by, refusal_by, IsPlain, session_after, Accepts}
use Rattle.headline.specs.FittingLaws.{accepts_next, rows_told, out_accepted}
use Rattle.headline.specs.Known.{IsKnown, AreAsked}
use Rattle.headline.specs.Calls.{has_outcome, has_update, AreCounted}
use Rattle.headline.specs.CallsLaws.{number_is, name_self, late_counted, early_counted}

read_at : (xs : List (List ℕ)) (t : List ℕ) (ys : List (List ℕ)) → AreRead (xs ++ t ∷ ys) → IsRead t
read_at [] t ys r = r.0
read_at (x ∷ xs) t ys r = read_at xs t ys r.1

-- ---- calls

call_there : (calls : List Call) (i : ℕ) → i < length calls → is_some (slice_get calls i) ≡ true
call_there [] i less = absurd (omega (arith, less))
call_there (call ∷ calls) zero less = refl
call_there (call ∷ calls) (suc i) less = call_there calls i (omega (arith, less))

number_some : (count : ℕ) (id : List ℕ) (n : ℕ) → number_of count id ≡ Some n → (m : ℕ) × (n ≡ suc m)
number_some zero id n e = cc e
number_some (suc c) id n e =
    let rest = number_some c id n in
    elim (is_name id (decimal (suc c))) as (λ b. cond b (Some (suc c)) (number_of c id) ≡ Some n → (m : ℕ) × (n ≡ suc m)) [
      | true ↦ λ f. let same : suc c ≡ n = cc f in (c, sym same)
      | false ↦ λ f. rest f
    ] e

number_there : (calls : List Call) (id : List ℕ) (n : ℕ) → number_of (length calls) id ≡ Some n → is_some (call_at calls n) ≡ true
number_there calls id n e =
    let m = number_some (length calls) id n e in
    let within = (number_is (length calls) id n e).within in
    subst (λ k. is_some (call_at calls k) ≡ true) (sym m.1) (call_there calls m.0 (omega (arith, within, m.1)))

some_is : (o : Option ℕ) → 1 ≤ one_if (is_some o) → (n : ℕ) × (o ≡ Some n)
some_is None h = absurd (omega (arith, h))
some_is (Some n) h = (n, refl)

at_most_one : (b : Bool) → one_if b ≤ 1
at_most_one true = omega arith
at_most_one false = omega arith

-- a call with no result yet takes one, and one with no `updated` yet takes one
result_free : (o : Option Call) → is_some o ≡ true → has_outcome o ≡ 0 → result_refusal o ≡ None
result_free None e z = cc e
result_free (Some call) e z = ap (λ b. cond b (Some 8) None) (free (is_some call.outcome) z)
  where
    free : (b : Bool) → one_if b ≡ 0 → b ≡ false
    free true e = absurd (omega (arith, e))
    free false e = refl

update_free : (o : Option Call) → is_some o ≡ true → has_update o ≡ 0 → awaits_update o ≡ true
update_free None e z = cc e
update_free (Some call) e z = ap not (free call.is_updated z)
  where
    free : (b : Bool) → one_if b ≡ 0 → b ≡ false
    free true e = absurd (omega (arith, e))
    free false e = refl

module _ (calls : List Call) (ms : List ServerMessage) (k : AreCounted calls ms) where
  result_fits : (id : List ℕ) → suc (results id ms) ≤ one_if (is_some (number_of (length calls) id)) → result_refusal (call_of calls id) ≡ None
  result_fits id le =
      let some = some_is (number_of (length calls) id) (omega (arith, le)) in
      let number = number_is (length calls) id some.0 some.1 in
      let none : results id ms ≡ 0 = omega (arith, le, at_most_one (is_some (number_of (length calls) id))) in
      let zero_ : has_outcome (call_at calls some.0) ≡ 0 = k.outcomes some.0 (omega (arith, number.within, k.few))
      ∙ (ap (λ x. results x ms) (sym number.is) ∙ none) in
      ap (λ o. result_refusal (option_and_then (call_at calls) o)) some.1 ∙ result_free (call_at calls some.0) (number_there calls id some.0 some.1) zero_

  update_fits : (id : List ℕ) → suc (updateds id ms) ≤ one_if (is_some (number_of (length calls) id)) → awaits_update (call_of calls id) ≡ true
  update_fits id le =
      let some = some_is (number_of (length calls) id) (omega (arith, le)) in
      let number = number_is (length calls) id some.0 some.1 in
      let none : updateds id ms ≡ 0 = omega (arith, le, at_most_one (is_some (number_of (length calls) id))) in
      let zero_ : has_update (call_at calls some.0) ≡ 0 = k.updates some.0 (omega (arith, number.within, k.few))
      ∙ (ap (λ x. updateds x ms) (sym number.is) ∙ none) in
      ap (λ o. awaits_update (option_and_then (call_at calls) o)) some.1 ∙ update_free (call_at calls some.0) (number_there calls id some.0 some.1) zero_

-- ---- the next message

server_in : (count : ℕ) (d : View Key Entries) (m : ServerMessage) → (documents_in count d m).server ≡ all_taken text_cmp key_cmp d.server (data_in m)
server_in count d (server.about m) = refl
server_in count d (server.updated ids) = refl
server_in count d m = refl

module _ (app : App) (h : List Entry) (c : Conn) (p : IsLinked app h c) (k : IsKnown c.client c.sent c.downward)
    (kept : AreKept (moments app c.number h)) (t : List ℕ) (ts : List (List ℕ)) (next : c.downward ≡ t ∷ ts) where
  abbrev told : List ServerMessage
  told = messages_in k.taken

  abbrev said : List ServerMessage
  said = out (moments app c.number h) c.number c.items

  texts_are : k.taken ++ (t ∷ (ts ++ c.outbox)) ≡ out_texts (moments app c.number h) c.number c.items
  texts_are =
      sym (append_assoc k.taken (t ∷ ts) c.outbox)
      ∙ (ap (λ (xs : List (List ℕ)). (k.taken ++ xs) ++ c.outbox) (sym next) ∙ (ap (λ (xs : List (List ℕ)). xs ++ c.outbox) k.is ∙ p.served.session.texts))

  all_said : told ++ (message_in t ∷ messages_in (ts ++ c.outbox)) ≡ said
  all_said =
      sym (map-append message_in k.taken (t ∷ (ts ++ c.outbox)))
      ∙ (ap messages_in texts_are ∙ (out_reads app c.number (moments app c.number h) c.items kept p.served.session.fits).1)

  next_read : IsRead t
  next_read = read_at k.taken t (ts ++ c.outbox)
      (subst AreRead (sym texts_are) (out_reads app c.number (moments app c.number h) c.items kept p.served.session.fits).0)

  next_fits : (refusal_by c.client.session c.client.documents.server (message_in t) ≡ None) × IsPlain (message_in t)
  next_fits =
      let a = accepts_next None [] told (message_in t) (messages_in (ts ++ c.outbox))
      (subst (λ ms. Accepts None [] ms) (sym all_said) (out_accepted app c.number (moments app c.number h) c.items p.served.session.fits)) in (
        ap (λ s. refusal_by s c.client.documents.server (message_in t)) k.session
            ∙ (ap (λ (r : Rows). refusal_by (session_after None told) r (message_in t)) (k.server ∙ sym (rows_told [] told)) ∙ a.0),
        a.1,
      )

  -- each `ping`less message has a single `updated`
  pub next_plain : IsPlain (message_in t)
  next_plain = next_fits.1

  result_next : (id : List ℕ) → results id told + result_in id (message_in t) ≤ results id said
  result_next id =
      omega (arith, ap (results id) all_said, total-append (result_in id) told (message_in t ∷ messages_in (ts ++ c.outbox)))

  update_next : (id : List ℕ) → updateds id told + updated_in id (message_in t) ≤ updateds id said
  update_next id =
      omega (arith, ap (updateds id) all_said, total-append (updated_in id) told (message_in t ∷ messages_in (ts ++ c.outbox)))

  module _ (asked : AreAsked c.items (length c.client.calls)) where
    most : (id : List ℕ) →
        (results id said ≤ one_if (is_some (number_of (length c.client.calls) id))) ×
        (updateds id said ≤ one_if (is_some (number_of (length c.client.calls) id)))
    most id =
        let m = methods_are_answered app c.number (moments app c.number h) c.items p.served.session.fits id in
        (omega (arith, m.0, asked id), omega (arith, m.0, m.1, asked id))

    late_fits : (m : ServerMessage) → m ≡ message_in t → late_by c.client.documents.server m ≡ None → IsPlain m → late_refusal c.client m ≡ None
    late_fits (server.connected session) e l plain = cc l
    late_fits (server.failed version) e l plain = cc l
    late_fits (server.about m) e l plain = l
    late_fits (server.finished id fault value) e l plain =
        let own : result_in id (message_in t) ≡ 1 = ap (result_in id) (sym e) ∙ ap one_if (name_self id id refl) in
        result_fits c.client.calls told k.counted id (omega (arith, result_next id, own, (most id).0))
    late_fits (server.updated ids) e l plain =
        let id = plain.0 in
        let own : updated_in id (message_in t) ≡ 1 = ap (updated_in id) (sym e)
        ∙ (ap (λ xs. updated_in id (server.updated xs)) plain.1 ∙ ap (λ b. one_if b + 0) (name_self id id refl)) in
        let awaits : awaits_update (call_of c.client.calls id) ≡ true =
        update_fits c.client.calls told k.counted id (omega (arith, update_next id, own, (most id).1)) in
        ap (λ xs. updated_refusal c.client.calls xs) plain.1 ∙ ap (λ b. cond ((b && true) && true) None (Some 9)) awaits
    late_fits (server.ping id) e l plain = refl
    late_fits (server.pong id) e l plain = refl
    late_fits (server.nosub id fault) e l plain = refl
    late_fits (server.ready subs) e l plain = refl
    late_fits (server.refused reason offending) e l plain = refl
    late_fits server.unknown e l plain = refl

    -- the client refuses it by no rule but that of length
    pub next_message_fits : message_refusal c.client (message_in t) ≡ None
    next_message_fits = by c.client.session next_fits.0
      where
        by : (s : Option (List ℕ)) → refusal_by s c.client.documents.server (message_in t) ≡ None →
            cond (is_some s) (late_refusal c.client (message_in t)) (early_refusal (message_in t)) ≡ None
        by None e = e
        by (Some name) e = late_fits (message_in t) refl e next_fits.1

    pub next_text_fits : nat_lt max_server_text (length t) ≡ false → told_text c.client t ≡ told_message c.client (message_in t)
    next_text_fits short =
        ap (λ b. cond b (breaks 1 c.client) (told_answer c.client (server_answer t))) short
        ∙ (ap (told_answer c.client) next_read ∙ ap (told_unless c.client (message_in t)) next_message_fits)

    -- what the client knows once it took it
    pub known_next : IsKnown (told_message c.client (message_in t)) c.sent ts
    known_next = record {
      taken = k.taken ++ t ∷ [];
      is = append_assoc k.taken (t ∷ []) ts ∙ (ap (λ (xs : List (List ℕ)). k.taken ++ xs) (sym next) ∙ k.is);
      session = ap (λ s. session_in s (message_in t)) k.session ∙ (sym (session_last None told) ∙ ap (session_after None) (sym more));
      server =
          server_in (length c.client.calls) c.client.documents (message_in t)
          ∙ (ap (λ (rows : Rows). all_taken text_cmp key_cmp rows (data_in (message_in t))) k.server
          ∙ (sym (all_taken-append [] (data_of told) (data_in (message_in t)))
          ∙ ap (all_taken text_cmp key_cmp [])
          (sym (ap data_of more ∙ (data_of-append told (message_in t ∷ []) ∙ ap (λ ds. data_of told ++ ds) (append-nil (data_in (message_in t))))))));
      counted = subst (AreCounted (calls_in c.client.calls (message_in t))) (sym more) (by c.client.session next_message_fits);
    }
      where
        more : messages_in (k.taken ++ t ∷ []) ≡ told ++ message_in t ∷ []
        more = map-append message_in k.taken (t ∷ [])

        session_last : (s : Option (List ℕ)) (xs : List ServerMessage) →
            session_after s (xs ++ message_in t ∷ []) ≡ session_in (session_after s xs) (message_in t)
        session_last s [] = refl
        session_last s (x ∷ xs) = session_last (session_in s x) xs

        by : (s : Option (List ℕ)) → cond (is_some s) (late_refusal c.client (message_in t)) (early_refusal (message_in t)) ≡ None →
            AreCounted (calls_in c.client.calls (message_in t)) (told ++ message_in t ∷ [])
        by None e = early_counted c.client told (message_in t) e k.counted
        by (Some name) e = late_counted c.client told (message_in t) e next_plain k.counted
