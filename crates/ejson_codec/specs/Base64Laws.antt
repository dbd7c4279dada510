-- A text is the base64 of some bytes exactly where those bytes are found in it.
use Rattle.std.specs.Prelude.{◌≡◌, ℕ, zero, suc, ◌<◌, List, [], ◌∷◌, All, ◌&&◌, bytes_eq, nat_lt, length, Some, None, Result, Ok, Err, refl}
use Rattle.std.proofs.Common.{◌∙◌, arith, inl, inr}
use Rattle.std.proofs.lemmas.List.{length-append, length-replicate}
use Rattle.std.specs.List.{list_all}
use Rattle.std.proofs.lemmas.Bool.{cases_Bool, and_parts, ltb-true, lt-ltb}
use Rattle.std.proofs.lemmas.List.Sums.{AllPass-from_list_all, list_all-from_AllPass}
use Rattle.std.proofs.lemmas.Slice.Eq.{bytes_eq-Decides}
use Rattle.base64.specs.Engines.{standard}
use Rattle.base64.specs.GeneralPurpose.{encode_of, decode_of, IsBytes}
use Rattle.base64.specs.Rfc4648.{encode_symbols, padding_len}
use Rattle.base64.specs.declared.decode.DecodeError.{DecodeError}
use Rattle.base64.proofs.EngineFacts.{decode_of-encode_of}
use Rattle.base64.proofs.RoundTrip.{length-encode_symbols}
use Rattle.value_model.specs.Size.{base64_size}
use Rattle.ejson_codec.specs.Base64.{base64, bytes_of, if_encoded}

IsBytes-from_All : (b : List ℕ) → All (λ x. x < 256) b → IsBytes b
IsBytes-from_All [] h i = omega arith
IsBytes-from_All (x ∷ xs) h zero = h 0 0 (omega arith)
IsBytes-from_All (x ∷ xs) h (suc i) = IsBytes-from_All xs (λ k d lt. h (suc k) d (omega arith)) i

All-from_IsBytes : (b : List ℕ) → IsBytes b → All (λ x. x < 256) b
All-from_IsBytes [] h k d lt = absurd (omega arith)
All-from_IsBytes (x ∷ xs) h zero d lt = h 0
All-from_IsBytes (x ∷ xs) h (suc k) d lt = All-from_IsBytes xs (λ i. h (suc i)) k d (omega arith)

encoded_some : (s b : List ℕ) (r : Result (List ℕ) DecodeError) → if_encoded s r ≡ Some b → (s ≡ encode_of standard b) × All (λ x. x < 256) b
encoded_some s b (Err e) h = cc h
encoded_some s b (Ok c) h = elim (cases_Bool (bytes_eq s (encode_of standard c) && list_all (λ x. nat_lt x 256) c)) [
  | inl yes_both ↦
      let parts = and_parts (bytes_eq s (encode_of standard c)) (list_all (λ x. nat_lt x 256) c) yes_both in
      let same : Some c ≡ Some b = rw yes_both at h in
      let e : c ≡ b = cc same in
      let all = AllPass-from_list_all (λ x. nat_lt x 256) c parts.1 in
      rw (← e) ((bytes_eq-Decides s (encode_of standard c)).0 parts.0, λ k d lt. ltb-true _ _ (all k d lt))
  | inr none ↦ cc (rw none at h)
]

-- what is found in a text has that text
pub bytes_of_some : (s b : List ℕ) → bytes_of s ≡ Some b → (s ≡ base64 b) × All (λ x. x < 256) b
unfolding base64 bytes_of
bytes_of_some s b h = encoded_some s b _ h

-- bytes are found in their text
pub bytes_of-base64 : (b : List ℕ) → All (λ x. x < 256) b → bytes_of (base64 b) ≡ Some b
unfolding base64 bytes_of
bytes_of-base64 b all =
    let decoded = decode_of-encode_of standard b refl (IsBytes-from_All b all) in
    let same = (bytes_eq-Decides (encode_of standard b) (encode_of standard b)).1 refl in
    let fits = list_all-from_AllPass (λ x. nat_lt x 256) b (λ k d lt. lt-ltb _ _ (all k d lt)) in
    rw (decoded, same, fits) refl

pub length-base64 : (b : List ℕ) → length (base64 b) ≡ base64_size (length b)
unfolding base64
length-base64 b =
    let symbols = length-encode_symbols standard.encode_table b in
    let pads = length-replicate {A = ℕ} (padding_len (length b)) 61 in
    length-append (encode_symbols standard.encode_table b) _ ∙ omega (arith, symbols, pads)

-- a text that decodes to bytes, and is their encoding
pub bytes_of_decoded : (s b : List ℕ) → decode_of standard s ≡ Ok b → s ≡ encode_of standard b → IsBytes b → bytes_of s ≡ Some b
unfolding bytes_of
bytes_of_decoded s b decoded is bytes =
    let same = (bytes_eq-Decides s (encode_of standard b)).1 is in
    let fits = list_all-from_AllPass (λ x. nat_lt x 256) b (λ k d lt. lt-ltb _ _ (All-from_IsBytes b bytes k d lt)) in
    rw (decoded, same, fits) refl

-- a text that doesn't decode
pub bytes_of_refused : (s : List ℕ) (e : DecodeError) → decode_of standard s ≡ Err e → bytes_of s ≡ None
unfolding bytes_of
bytes_of_refused s e refused = rw refused refl
