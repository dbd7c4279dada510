-- The steps of an end of a ring, on what stands behind it.
use Rattle.std.proofs.Common.{◌≡◌, ℕ, suc, ◌+◌, ◌-◌, ◌<◌, ◌≤◌, ◌++◌, ◌||◌, Bool, true, false, List, [], ◌∷◌, Some, None, if◌then◌else◌, length, refl, sym, ap, subst, ◌∙◌, arith, length-append}
use mathlib.Core.List.{IsPrefix}
use Rattle.std.specs.declared.alloc.Global.{Global}
use Rattle.std.proofs.Math.Bool.{or-false}
use Rattle.std.proofs.lemmas.Bool.{both_ways}
use Rattle.std.proofs.lemmas.List.{append-nil}
use Rattle.rtrb.specs.declared.AnyItems.{AnyItems}
use Rattle.rtrb.specs.declared.producer.Producer.{Producer}
use Rattle.rtrb.specs.declared.consumer.Consumer.{Consumer}
use Rattle.rtrb.specs.Ring.{sent, received, known_free, known_items, SameProducer, SameConsumer, ProducerLooked, ConsumerLooked}
use Rattle.duct.specs.declared.link.Polled.TheVariants.{Message, Closed}
use Rattle.duct.specs.Marked.{texts_of, has_mark}
use Rattle.duct.specs.Rings.{RingPolls, with_mark, Beside}
use Rattle.duct.specs.RingViews.{Item, way_out, way_in, waiting_of, places_of, end_of, marks, IsEnd}

abbrev pub Out : Type 0
Out = Producer Item Global AnyItems

abbrev pub In : Type 0
In = Consumer Item Global AnyItems

pub texts_of-append : (xs ys : List Item) → texts_of (xs ++ ys) ≡ texts_of xs ++ waiting_of (has_mark xs) ys
texts_of-append [] ys = refl
texts_of-append (None ∷ xs) ys = refl
texts_of-append (Some text ∷ xs) ys = ap (λ (zs : List (List ℕ)). text ∷ zs) (texts_of-append xs ys)

pub has_mark-append : (xs ys : List Item) → has_mark (xs ++ ys) ≡ (has_mark xs || has_mark ys)
has_mark-append [] ys = refl
has_mark-append (None ∷ xs) ys = refl
has_mark-append (Some text ∷ xs) ys = has_mark-append xs ys

pub length-texts_of : (xs : List Item) → has_mark xs ≡ false → length (texts_of xs) ≡ length xs
length-texts_of [] clear = refl
length-texts_of (None ∷ xs) clear = absurd (both_ways true clear refl)
length-texts_of (Some text ∷ xs) clear = ap suc (length-texts_of xs clear)

pub texts_prefix : (xs ys : List Item) → IsPrefix xs ys → IsPrefix (texts_of xs) (texts_of ys)
texts_prefix xs ys p = (waiting_of (has_mark xs) p.0, sym (texts_of-append xs p.0) ∙ ap texts_of p.1)

pub nothing_before : (xs : List (List ℕ)) → IsPrefix xs [] → xs ≡ []
nothing_before [] p = refl
nothing_before (x ∷ xs) p = absurd (grind (arith, ap length p.1, length-append (x ∷ xs) p.0))

pub same_out : (a b : Out) → SameProducer a b → way_out b ≡ way_out a
same_out a b s = λ i. record { words = s.0.0 i; slots = s.0.1 i; names = s.0.2 i; heap = s.0.3 i }

pub same_in : (a b : In) → SameConsumer a b → way_in b ≡ way_in a
same_in a b s = λ i. record { words = s.0.0 i; slots = s.0.1 i; names = s.0.2 i; heap = s.0.3 i }

-- the mark is put
pub texts_marked : (a b : Out) (inn : In) (closed ended : Bool) → closed ≡ false → sent b ≡ sent a ++ None ∷ [] → IsEnd a inn closed ended
    → texts_of (sent b) ≡ texts_of (sent a)
texts_marked a b inn closed ended not put is =
    rw (put, texts_of-append (sent a) (None ∷ []), ← is.closed_is, not, append-nil (texts_of (sent a))) refl

pub is_marked : (a b : Out) (inn : In) (closed ended : Bool) → closed ≡ false → SameProducer a b → sent b ≡ sent a ++ None ∷ [] → IsEnd a inn closed ended
    → IsEnd b inn true ended
is_marked a b inn closed ended not same put is =
    let counted : length (texts_of (sent a)) + marks false ≡ length (sent a) = (let P : Bool → Type 0 = λ m. length (texts_of (sent a)) + marks m ≡ length (sent a) in subst P not is.counted) in record {
      closed_is = rw (put, has_mark-append (sent a) (None ∷ []), ← is.closed_is, not) refl;
      ended_is = is.ended_is;
      kept = λ clear. absurd (both_ways true clear refl);
      counted = omega (arith, ap length put, length-append (sent a) (None ∷ []), counted, ap length (texts_marked a b inn closed ended not put is));
      small = rw same.1 is.small;
    }

pub view_marked : (a b : Out) (inn : In) (closed ended : Bool) → closed ≡ false → SameProducer a b → sent b ≡ sent a ++ None ∷ [] → IsEnd a inn closed ended
    → end_of b inn true ended ≡ with_mark (end_of a inn closed ended)
view_marked a b inn closed ended not same put is = rw (same_out a b same, texts_marked a b inn closed ended not put is) refl

-- an end that only looked
pub is_looked : (a b : Out) (inn : In) (closed ended : Bool) → ProducerLooked a b → IsEnd a inn closed ended → IsEnd b inn closed ended
is_looked a b inn closed ended looked is = record {
  closed_is = is.closed_is ∙ sym (ap has_mark looked.1);
  ended_is = is.ended_is;
  kept = λ clear. omega (arith, is.kept clear, looked.2);
  counted = ap (λ xs. length (texts_of xs) + marks closed) looked.1 ∙ is.counted ∙ sym (ap length looked.1);
  small = rw looked.0.1 is.small;
}

-- a text is put
pub texts_put : (a b : Out) (inn : In) (closed ended : Bool) (text : List ℕ) → closed ≡ false → sent b ≡ sent a ++ Some text ∷ [] → IsEnd a inn closed ended
    → texts_of (sent b) ≡ texts_of (sent a) ++ text ∷ []
texts_put a b inn closed ended text not put is = rw (put, texts_of-append (sent a) (Some text ∷ []), ← is.closed_is, not) refl

pub is_put : (a b : Out) (inn : In) (closed ended : Bool) (text : List ℕ) → closed ≡ false → SameProducer a b → sent b ≡ sent a ++ Some text ∷ []
    → 0 < known_free b → IsEnd a inn closed ended → IsEnd b inn closed ended
is_put a b inn closed ended text not same put free is = record {
  closed_is = rw (put, has_mark-append (sent a) (Some text ∷ []), ← is.closed_is) (sym (or-false closed));
  ended_is = is.ended_is;
  kept = λ _. free;
  counted = omega (arith, ap length put, length-append (sent a) (Some text ∷ []), is.counted, ap length (texts_put a b inn closed ended text not put is), length-append (texts_of (sent a)) (text ∷ []));
  small = rw same.1 is.small;
}

pub sends_text : (a looked b : Out) (inn : In) (closed ended : Bool) (text : List ℕ) → closed ≡ false → ProducerLooked a looked → SameProducer looked b
    → sent b ≡ sent looked ++ Some text ∷ [] → known_free looked ≡ known_free b + 1 → 2 ≤ known_free looked → IsEnd a inn closed ended
    → (closed ≡ false) × (places_of closed (known_free a) ≤ places_of closed (known_free b) + 1)
    × (end_of b inn closed ended ≡ record (end_of a inn closed ended) { sent = texts_of (sent a) ++ text ∷ []; slots = places_of closed (known_free b) })
sends_text a looked b inn closed ended text not saw same put free two is =
    let texts : texts_of (sent b) ≡ texts_of (sent a) ++ text ∷ [] =
    texts_put looked b inn closed ended text not put (is_looked a looked inn closed ended saw is) ∙ ap (λ xs. texts_of xs ++ text ∷ []) saw.1 in (
      not,
      rw not (omega (arith, saw.2, free, two)),
      λ i. record {
        out = (same_out looked b same ∙ same_out a looked saw.0) i;
        inn = way_in inn;
        sent = texts i;
        taken = texts_of (received inn);
        known = waiting_of ended (known_items inn);
        slots = places_of closed (known_free b);
        closed = closed;
        ended = ended;
      },
    )

-- a text is taken
pub texts_taken : (out : Out) (a b : In) (closed ended : Bool) (text : List ℕ) → ended ≡ false → received b ≡ received a ++ Some text ∷ [] → IsEnd out a closed ended
    → texts_of (received b) ≡ texts_of (received a) ++ text ∷ []
texts_taken out a b closed ended text not took is = rw (took, texts_of-append (received a) (Some text ∷ []), ← is.ended_is, not) refl

pub is_taken : (out : Out) (a b : In) (closed ended : Bool) (text : List ℕ) → received b ≡ received a ++ Some text ∷ [] → IsEnd out a closed ended
    → IsEnd out b closed ended
is_taken out a b closed ended text took is = record {
  closed_is = is.closed_is;
  ended_is = rw (took, has_mark-append (received a) (Some text ∷ []), ← is.ended_is) (sym (or-false ended));
  kept = is.kept;
  counted = is.counted;
  small = is.small;
}

pub polls_text : (out : Out) (a b : In) (closed ended : Bool) (text : List ℕ) → ended ≡ false → SameConsumer a b → received b ≡ received a ++ Some text ∷ []
    → IsPrefix (known_items a) (Some text ∷ known_items b) → IsEnd out a closed ended
    → RingPolls (end_of out a closed ended) (Message text) (end_of out b closed ended)
polls_text out a b closed ended text not same took known is = (
  not,
  rw not (texts_prefix (known_items a) (Some text ∷ known_items b) known),
  rw (same_in a b same, texts_taken out a b closed ended text not took is) refl,
)

-- the mark is taken
pub is_ended : (out : Out) (a b : In) (closed ended : Bool) → ended ≡ false → received b ≡ received a ++ None ∷ [] → IsEnd out a closed ended
    → IsEnd out b closed true
is_ended out a b closed ended not took is = record {
  closed_is = is.closed_is;
  ended_is = rw (took, has_mark-append (received a) (None ∷ []), ← is.ended_is, not) refl;
  kept = is.kept;
  counted = is.counted;
  small = is.small;
}

pub polls_mark : (out : Out) (a b : In) (closed ended : Bool) → ended ≡ false → SameConsumer a b → received b ≡ received a ++ None ∷ []
    → IsPrefix (known_items a) (None ∷ known_items b) → IsEnd out a closed ended
    → RingPolls (end_of out a closed ended) Closed (end_of out b closed true)
polls_mark out a b closed ended not same took known is =
    let none : texts_of (known_items a) ≡ [] = nothing_before _ (texts_prefix (known_items a) (None ∷ known_items b) known) in (
      rw (not, none) refl,
      rw (same_in a b same, took, texts_of-append (received a) (None ∷ []), ← is.ended_is, not, append-nil (texts_of (received a)), none) refl,
    )

-- both ends are looked at
pub texts_beside : (here : In) (there : Out) (ended : Bool) → received here ++ known_items here ≡ sent there → ended ≡ has_mark (received here)
    → texts_of (sent there) ≡ texts_of (received here) ++ waiting_of ended (known_items here)
texts_beside here there ended all is = rw (← all, texts_of-append (received here) (known_items here), ← is) refl

pub mark_beside : (here : In) (there : Out) (ended closed : Bool) → received here ++ known_items here ≡ sent there → ended ≡ has_mark (received here)
    → closed ≡ has_mark (sent there) → ended ≡ true → closed ≡ true
mark_beside here there ended closed all is closes marked =
    rw (closes, ← all, has_mark-append (received here) (known_items here), ← is, marked) refl

pub count_beside : (here : In) (there : Out) (ended closed : Bool) → received here ++ known_items here ≡ sent there → ended ≡ has_mark (received here)
    → length (texts_of (sent there)) + marks closed ≡ length (sent there)
    → (if ended then 0 else length (known_items here) - marks closed) ≡ length (waiting_of ended (known_items here))
count_beside here there true closed all is counted = refl
count_beside here there false closed all is counted =
    omega (
      arith,
      counted,
      ap length all,
      length-append (received here) (known_items here),
      ap length (texts_beside here there false all is),
      length-append (texts_of (received here)) (texts_of (known_items here)),
      length-texts_of (received here) (sym is),
    )

waiting_prefix : (ended : Bool) (xs ys : List Item) → IsPrefix xs ys → IsPrefix (waiting_of ended xs) (waiting_of ended ys)
waiting_prefix true xs ys p = ([], refl)
waiting_prefix false xs ys p = texts_prefix xs ys p

places_rise : (closed : Bool) (m n : ℕ) → m ≤ n → places_of closed m ≤ places_of closed n
places_rise true m n le = omega arith
places_rise false m n le = omega (arith, le)

pub beside_ends : (out : Out) (a b : In) (closed ended : Bool) (before after : Out) (inn : In) (shut done : Bool) → ConsumerLooked a b → ProducerLooked before after
    → received b ++ known_items b ≡ sent after → IsEnd out a closed ended → IsEnd before inn shut done
    → Beside (end_of out a closed ended) (end_of out b closed ended) (end_of before inn shut done) (end_of after inn shut done)
beside_ends out a b closed ended before after inn shut done looked saw all is other =
    let ends : ended ≡ has_mark (received b) = is.ended_is ∙ sym (ap has_mark looked.1) in (
      λ i. record {
        out = way_out out;
        inn = same_in a b looked.0 i;
        sent = texts_of (sent out);
        taken = texts_of (looked.1 i);
        known = waiting_of ended (known_items b);
        slots = places_of closed (known_free out);
        closed = closed;
        ended = ended;
      },
      waiting_prefix ended (known_items a) (known_items b) looked.2,
      λ i. record {
        out = same_out before after saw.0 i;
        inn = way_in inn;
        sent = texts_of (saw.1 i);
        taken = texts_of (received inn);
        known = waiting_of done (known_items inn);
        slots = places_of shut (known_free after);
        closed = shut;
        ended = done;
      },
      places_rise shut (known_free before) (known_free after) saw.2,
      texts_beside b after ended all ends,
      mark_beside b after ended shut all ends (other.closed_is ∙ sym (ap has_mark saw.1)),
    )
