-- What a session makes of a text may follow its journal, and the journal with it answers the texts with that one.
use Rattle.std.specs.Prelude.{◌≡◌, ℕ, List, [], ◌∷◌, ◌++◌, length, Bool, true, false, cond, not, ◌&&◌, nat_le, nat_lt, Option, Some, None, IfSome}
use Rattle.std.specs.Prelude.{codes, is_some, option_and_then, Result, Ok, Err, refl}
use Rattle.std.proofs.Common.{ap, ap₂, sym, subst, ◌∙◌, append-nil}
use Rattle.std.proofs.lemmas.List.{append_assoc}
use Rattle.std.proofs.lemmas.Bool.{leb-true}
use Rattle.serde_json.specs.Data.{Data}
use Rattle.serde_json.specs.Find.{get, as_str, as_object}
use Rattle.serde_json.specs.Read as json
use Rattle.value_model.specs.Val.{Val}
use Rattle.value_model.specs.Size.{is_name}
use Rattle.value_model.specs.Valid.{IsValue}
use Rattle.ejson_codec.specs.Reading.{max_levels, reading}
use Rattle.ejson_codec.specs.ReadingLaws.{reads_ok}
use Rattle.ejson_codec.specs.ValueLaws.{reads_valid}
use Rattle.ejson_codec.specs.Trees.{HasRisingKeys}
use Rattle.ejson_codec.specs.declared.fault.EjsonFault.{EjsonFault}
use Rattle.ddp_messages.specs.Fields.{name_of}
use Rattle.ddp_messages.specs.Forms.{max_id, short_enough, ok_of, value_of}
use Rattle.ddp_messages.specs.Forms as form
use Rattle.ddp_messages.specs.Limits.{IsShort, IsShallow}
use Rattle.ddp_messages.specs.ClientMessage.{ClientMessage, ClientReads, client_reading}
use Rattle.ddp_messages.specs.ClientMessage as client
use Rattle.ddp_messages.specs.ClientLaws.{client_ok}
use Rattle.ddp_messages.specs.ReadTreeLaws.{read_rises}
use Rattle.app_model.specs.App.{App}
use Rattle.session_model.specs.Items.{Item, id_of, handled_by, handled}
use Rattle.session_model.specs.Items as item
use Rattle.session_model.specs.State.{State, started, after, state_of}
use Rattle.session_model.specs.Moments.{Moment}
use Rattle.session_model.specs.Fits.{CanFollow}
use Rattle.session_model.specs.Taking.{max_text, Taken, at_once, to_queue, offending_of, refused_for, taken_as, taken_named, taken_tree, taken_text}
use Rattle.session_model.specs.Taking.{connects, item_of, message_of, is_connected_by, answered_from, queued_from}
use Rattle.session_model.specs.Answering.{is_at_once, at_once_in, Answers}
use Rattle.session_journal_laws.specs.Appending.{state-append, handled-append}

-- ---- what an `error` shows

value_kept : (d : Data) → HasRisingKeys d → IfSome (value_of d) (λ v. IsValue v × IsShallow v)
value_kept d rising = by (reading max_levels d) refl
  where
    by : (r : Result Val EjsonFault) → reading max_levels d ≡ r → IfSome (ok_of r) (λ v. IsValue v × IsShallow v)
    by (Err x) e = tt
    by (Ok v) e = let p = reads_ok max_levels d v e in (reads_valid d v p.0 rising, p.1)

offending_kept : (d : Data) → HasRisingKeys d → IfSome (offending_of d) (λ v. IsValue v × IsShallow v)
offending_kept d rising = by (is_some (as_object d))
  where
    by : (b : Bool) → IfSome (cond b (value_of d) None) (λ v. IsValue v × IsShallow v)
    by true = value_kept d rising
    by false = tt

both : (o : Option Val) → IfSome o (λ v. IsValue v × IsShallow v) → IfSome o IsValue × IfSome o IsShallow
both None h = (tt, tt)
both (Some v) h = h

-- ---- the id of a message that waits

short_text : (s id : List ℕ) → short_enough s ≡ Some id → IsShort id
short_text s id e =
    elim (nat_le (length s) max_id) as (λ b. nat_le (length s) max_id ≡ b → cond b (Some s) None ≡ Some id → IsShort id) [
      | true ↦ λ le is. let same : s ≡ id = cc is in subst IsShort same (leb-true (length s) max_id le)
      | false ↦ λ le is. absurd (cc is)
    ] refl e

short_str : (o : Option (List ℕ)) (id : List ℕ) → option_and_then short_enough o ≡ Some id → IsShort id
short_str None id e = cc e
short_str (Some s) id e = short_text s id e

short_field : (o : Option Data) (id : List ℕ) → option_and_then form.id_of o ≡ Some id → IsShort id
short_field None id e = cc e
short_field (Some d) id e = short_str (as_str d) id e

-- ---- what comes of a text

module _ (app : App) (number : ℕ) (C : List Moment) (connected : Bool) where
  -- an item that comes at once may follow in a session that is connected so; a message that waits has a short id
  abbrev pub IsRight : Taken → Type 0
  IsRight (at_once i) = (st : State) → st.connected ≡ connected → st.failed ≡ false → CanFollow app number C st i
  IsRight (to_queue message) = IsShort (id_of message)

  right_refused : (reason : List ℕ) (d : Data) → HasRisingKeys d → IsRight (refused_for reason d)
  right_refused reason d rising st c f = let b = both (offending_of d) (offending_kept d rising) in (f, b.0, b.1)

  right_if : (b : Bool) (x y : Taken) → (b ≡ true → IsRight x) → (b ≡ false → IsRight y) → IsRight (cond b x y)
  right_if true x y p q = p refl
  right_if false x y p q = q refl

  right_connect : (b : Bool) → connected ≡ false → IsRight (at_once (cond b item.connect item.fail))
  right_connect true e st c f = (c ∙ e, f)
  right_connect false e st c f = (c ∙ e, f)

  named : (d : Data) (name other : List ℕ) → name_of d ≡ Some name → name_of d ≡ Some other → name ≡ other
  named d name other a b = let e : Some name ≡ Some other = sym a ∙ b in cc e

  must_be : (b : Bool) → (not connected && not b) ≡ false → b ≡ false → connected ≡ true
  must_be b e is = by connected (ap (λ x. not connected && not x) (sym is) ∙ e)
    where
      by : (c : Bool) → (not c && true) ≡ false → c ≡ true
      by true e = refl
      by false e = cc e

  must_not : (b : Bool) → (connected && b) ≡ false → b ≡ true → connected ≡ false
  must_not b e is = by connected (ap (λ x. connected && x) (sym is) ∙ e)
    where
      by : (c : Bool) → (c && true) ≡ false → c ≡ false
      by true e = cc e
      by false e = refl

  right_as : (d : Data) (name : List ℕ) → HasRisingKeys d → name_of d ≡ Some name → (not connected && not (is_name name (codes "connect"))) ≡ false →
      (connected && is_name name (codes "connect")) ≡ false →
      (o : Option ClientMessage) → client_reading d ≡ o → IsRight (taken_as d o)
  right_as d name rising is first second None e = right_refused (codes "Bad request") d rising
  right_as d name rising is first second (Some (client.connect version support)) e =
      let same : name ≡ codes "connect" = named d name (codes "connect") is (client_ok d (client.connect version support) e).0 in
      right_connect (is_name version (codes "1")) (must_not (is_name name (codes "connect")) second (ap (λ n. is_name n (codes "connect")) same))
  right_as d name rising is first second (Some (client.ping id)) e =
      let same : name ≡ codes "ping" = named d name (codes "ping") is (client_ok d (client.ping id) e).0 in
      λ st c f. c ∙ must_be (is_name name (codes "connect")) first (ap (λ n. is_name n (codes "connect")) same)
  right_as d name rising is first second (Some (client.pong id)) e =
      let same : name ≡ codes "pong" = named d name (codes "pong") is (client_ok d (client.pong id) e).0 in
      λ st c f. c ∙ must_be (is_name name (codes "connect")) first (ap (λ n. is_name n (codes "connect")) same)
  right_as d name rising is first second (Some (client.sub id x params)) e = short_field (get (codes "id") d) id (client_ok d (client.sub id x params) e).1
  right_as d name rising is first second (Some (client.unsub id)) e = short_field (get (codes "id") d) id (client_ok d (client.unsub id) e).1
  right_as d name rising is first second (Some (client.method id x params seed)) e =
      short_field (get (codes "id") d) id (client_ok d (client.method id x params seed) e).1

  right_named : (d : Data) → HasRisingKeys d → (o : Option (List ℕ)) → name_of d ≡ o → IsRight (taken_named connected d o)
  right_named d rising None e = right_refused (codes "Bad request") d rising
  right_named d rising (Some name) e =
      right_if (not connected && not (is_name name (codes "connect"))) _ _ (λ b. right_refused (codes "Must connect first") d rising)
      (λ first. right_if (connected && is_name name (codes "connect")) _ _ (λ b. right_refused (codes "Already connected") d rising)
      (λ second. right_as d name rising e first second (client_reading d) refl))

  right_tree : (t : List ℕ) (o : Option Data) → json.read t ≡ o → IsRight (taken_tree connected o)
  right_tree t None e = λ st c f. (f, tt, tt)
  right_tree t (Some d) e = right_named d (read_rises t d e) (name_of d) refl

  pub taken_right : (t : List ℕ) → IsRight (taken_text connected t)
  taken_right t = right_if (nat_lt max_text (length t)) _ _ (λ b st c f. (f, tt, tt)) (λ b. right_tree t (json.read t) refl)

-- ---- one text more

connected-append : (connected : Bool) (ts : List (List ℕ)) (t : List ℕ) →
    is_connected_by connected (ts ++ t ∷ []) ≡ connects (is_connected_by connected ts) (taken_text (is_connected_by connected ts) t)
connected-append connected [] t = refl
connected-append connected (x ∷ ts) t = connected-append (connects connected (taken_text connected x)) ts t

answered-append : (connected : Bool) (ts : List (List ℕ)) (t : List ℕ) →
    answered_from connected (ts ++ t ∷ []) ≡ answered_from connected ts ++ item_of (taken_text (is_connected_by connected ts) t)
answered-append connected [] t = append-nil (item_of (taken_text connected t))
answered-append connected (x ∷ ts) t =
    let c = connects connected (taken_text connected x) in
    ap (λ rest. item_of (taken_text connected x) ++ rest) (answered-append c ts t)
    ∙ sym (append_assoc (item_of (taken_text connected x)) (answered_from c ts) (item_of (taken_text (is_connected_by c ts) t)))

queued-append : (connected : Bool) (ts : List (List ℕ)) (t : List ℕ) →
    queued_from connected (ts ++ t ∷ []) ≡ queued_from connected ts ++ message_of (taken_text (is_connected_by connected ts) t)
queued-append connected [] t = append-nil (message_of (taken_text connected t))
queued-append connected (x ∷ ts) t =
    let c = connects connected (taken_text connected x) in
    ap (λ rest. message_of (taken_text connected x) ++ rest) (queued-append c ts t)
    ∙ sym (append_assoc (message_of (taken_text connected x)) (queued_from c ts) (message_of (taken_text (is_connected_by c ts) t)))

at_once-append : (items : List Item) (i : Item) → at_once_in (items ++ i ∷ []) ≡ at_once_in items ++ at_once_in (i ∷ [])
at_once-append [] i = refl
at_once-append (j ∷ items) i = elim (is_at_once j) as
    (λ b. cond b (j ∷ at_once_in (items ++ i ∷ [])) (at_once_in (items ++ i ∷ [])) ≡ cond b (j ∷ at_once_in items) (at_once_in items) ++ at_once_in (i ∷ [])) [
      | true ↦ ap (λ rest. j ∷ rest) (at_once-append items i)
      | false ↦ at_once-append items i
    ]

handled-one : (items : List Item) (i : Item) → handled (items ++ i ∷ []) ≡ handled items ++ handled_by i
handled-one items i = handled-append items (i ∷ []) ∙ ap (λ xs. handled items ++ xs) (append-nil (handled_by i))

-- an item that comes of a text handles no message, and connects as it says
once_item : (i : Item) → is_at_once i ≡ true →
    (handled_by i ≡ []) × (at_once_in (i ∷ []) ≡ i ∷ []) × ((st : State) → (after st i).connected ≡ connects st.connected (at_once i))
once_item item.connect e = (refl, refl, λ st. refl)
once_item item.fail e = (refl, refl, λ st. refl)
once_item (item.ping id) e = (refl, refl, λ st. refl)
once_item item.pong e = (refl, refl, λ st. refl)
once_item (item.bad reason offending) e = (refl, refl, λ st. refl)
once_item i e = cc e

-- another item is no answer at once, and leaves whether the session is connected
later_item : (i : Item) → is_at_once i ≡ false → (at_once_in (i ∷ []) ≡ []) × ((st : State) → (after st i).connected ≡ st.connected)
later_item item.connect e = cc e
later_item item.fail e = cc e
later_item (item.ping id) e = cc e
later_item item.pong e = cc e
later_item (item.bad reason offending) e = cc e
later_item i e = (refl, λ st. refl)

pub answers_first : Answers [] [] []
answers_first = record { at_once = refl; in_turn = refl; connected = refl }

-- a text that is answered at once
pub answers_at_once : (taken : List (List ℕ)) (items : List Item) (waiting : List ClientMessage) (t : List ℕ) (i : Item) → Answers taken items waiting →
    taken_text (state_of items).connected t ≡ at_once i → is_at_once i ≡ true →
    Answers (taken ++ t ∷ []) (items ++ i ∷ []) waiting
answers_at_once taken items waiting t i a e once =
    let c = is_connected_by false taken in
    let made : taken_text c t ≡ at_once i = ap (λ b. taken_text b t) a.connected ∙ e in
    let o = once_item i once in record {
      at_once = answered-append false taken t
          ∙ (ap₂ (λ xs x. xs ++ item_of x) a.at_once made ∙ sym (at_once-append items i ∙ ap (λ xs. at_once_in items ++ xs) o.1));
      in_turn = queued-append false taken t ∙ (ap₂ (λ xs x. xs ++ message_of x) a.in_turn made ∙ (append-nil (handled items ++ waiting)
          ∙ ap (λ xs. xs ++ waiting) (sym (handled-one items i ∙ (ap (λ xs. handled items ++ xs) o.0 ∙ append-nil (handled items))))));
      connected = connected-append false taken t
          ∙ (ap₂ connects a.connected made ∙ sym (ap (λ (st : State). st.connected) (state-append started items i) ∙ o.2 (state_of items)));
    }

-- a text whose message waits
pub answers_later : (taken : List (List ℕ)) (items : List Item) (waiting : List ClientMessage) (t : List ℕ) (message : ClientMessage) →
    Answers taken items waiting → taken_text (state_of items).connected t ≡ to_queue message →
    Answers (taken ++ t ∷ []) items (waiting ++ message ∷ [])
answers_later taken items waiting t message a e =
    let c = is_connected_by false taken in
    let made : taken_text c t ≡ to_queue message = ap (λ b. taken_text b t) a.connected ∙ e in record {
      at_once = answered-append false taken t ∙ (ap₂ (λ xs x. xs ++ item_of x) a.at_once made ∙ append-nil (at_once_in items));
      in_turn = queued-append false taken t ∙ (ap₂ (λ xs x. xs ++ message_of x) a.in_turn made ∙ append_assoc (handled items) waiting (message ∷ []));
      connected = connected-append false taken t ∙ (ap₂ connects a.connected made ∙ refl);
    }

-- an item that handles the first message that waits, or none
pub answers_in_turn : (taken : List (List ℕ)) (items : List Item) (waiting : List ClientMessage) (i : Item) →
    Answers taken items (handled_by i ++ waiting) → is_at_once i ≡ false → Answers taken (items ++ i ∷ []) waiting
answers_in_turn taken items waiting i a e =
    let l = later_item i e in record {
      at_once = a.at_once ∙ sym (at_once-append items i ∙ (ap (λ xs. at_once_in items ++ xs) l.0 ∙ append-nil (at_once_in items)));
      in_turn = a.in_turn ∙ (sym (append_assoc (handled items) (handled_by i) waiting) ∙ ap (λ xs. xs ++ waiting) (sym (handled-one items i)));
      connected = a.connected ∙ sym (ap (λ (st : State). st.connected) (state-append started items i) ∙ l.1 (state_of items));
    }
