-- Tokens that are added one behind the other, and those of arrays and objects.
use Rattle.std.proofs.Common.{◌≡◌, ℕ, List, [], ◌∷◌, ◌++◌, map, refl, sym, ap, subst, ◌∙◌, append_assoc}
use Rattle.std.proofs.lemmas.List.{append-nil}
use Rattle.std.specs.List.{flat_map}
use Rattle.std.proofs.lemmas.Grind.{flat_map-append}
use Rattle.json.specs.Token.{Token, begin_array, end_array, begin_object, end_object, key}
use Rattle.json.specs.Json.{Json, array, object}
use Rattle.json.specs.Tree.{json_tokens, items_tokens, members_tokens}
use Rattle.json.specs.Written.{Written}
use Rattle.command_read.specs.Json.{items_of, members_of}
use Rattle.command_read.specs.Writing.{AddsTokens}

pub adds_then : (a b c : Written) (xs ys : List Token) → AddsTokens a b xs → AddsTokens b c ys → AddsTokens a c (xs ++ ys)
adds_then a b c xs ys first second = record {
  before = second.before ∙ first.before;
  tokens = second.tokens ∙ ap (λ (l : List Token). l ++ ys) first.tokens ∙ append_assoc a.tokens xs ys;
}

pub adds_same : (a b : Written) (xs ys : List Token) → xs ≡ ys → AddsTokens a b xs → AddsTokens a b ys
adds_same a b xs ys same adds = subst (AddsTokens a b) same adds

-- an element more, each of which is written as these tokens
pub adds_more : {X : Type 0} (g : X → List Token) (a b c : Written) (t : Token) (xs : List X) (x : X) → AddsTokens a b (t ∷ flat_map g xs) → AddsTokens b c (g x) → AddsTokens a c (t ∷ flat_map g (xs ++ x ∷ []))
adds_more g a b c t xs x first second =
    adds_same a c ((t ∷ flat_map g xs) ++ g x) (t ∷ flat_map g (xs ++ x ∷ []))
    (ap (λ (l : List Token). t ∷ l) (ap (λ (l : List Token). flat_map g xs ++ l) (sym (append-nil (g x))) ∙ sym (flat_map-append g xs (x ∷ []))))
    (adds_then a b c (t ∷ flat_map g xs) (g x) first second)

-- ---- arrays

items_are : {X : Type 0} (f : X → Json) (xs : List X) → items_tokens (items_of (map f xs)) ≡ flat_map (λ x. json_tokens (f x)) xs ++ end_array ∷ []
items_are f [] = refl
items_are f (x ∷ xs) =
    ap (λ (l : List Token). json_tokens (f x) ++ l) (items_are f xs)
    ∙ sym (append_assoc (json_tokens (f x)) (flat_map (λ y. json_tokens (f y)) xs) (end_array ∷ []))

pub array_ends : {X : Type 0} (f : X → Json) (a b c : Written) (xs : List X) → AddsTokens a b (begin_array ∷ flat_map (λ x. json_tokens (f x)) xs) → AddsTokens b c (end_array ∷ []) → AddsTokens a c (json_tokens (array (items_of (map f xs))))
array_ends f a b c xs first second =
    adds_same a c ((begin_array ∷ flat_map (λ x. json_tokens (f x)) xs) ++ end_array ∷ []) (json_tokens (array (items_of (map f xs))))
    (ap (λ (l : List Token). begin_array ∷ l) (sym (items_are f xs)))
    (adds_then a b c (begin_array ∷ flat_map (λ x. json_tokens (f x)) xs) (end_array ∷ []) first second)

-- ---- objects

abbrev pub member_tokens : List ℕ × Json → List Token
member_tokens m = key m.0 ∷ json_tokens m.1

members_are : (ms : List (List ℕ × Json)) → members_tokens (members_of ms) ≡ flat_map member_tokens ms ++ end_object ∷ []
members_are [] = refl
members_are (m ∷ ms) =
    ap (λ (l : List Token). member_tokens m ++ l) (members_are ms)
    ∙ sym (append_assoc (member_tokens m) (flat_map member_tokens ms) (end_object ∷ []))

pub object_ends : (a b c : Written) (ms : List (List ℕ × Json)) → AddsTokens a b (begin_object ∷ flat_map member_tokens ms) → AddsTokens b c (end_object ∷ []) → AddsTokens a c (json_tokens (object (members_of ms)))
object_ends a b c ms first second =
    adds_same a c ((begin_object ∷ flat_map member_tokens ms) ++ end_object ∷ []) (json_tokens (object (members_of ms)))
    (ap (λ (l : List Token). begin_object ∷ l) (sym (members_are ms)))
    (adds_then a b c (begin_object ∷ flat_map member_tokens ms) (end_object ∷ []) first second)

-- a member more, of which the name was written and then the value
pub member_more : (a b c d : Written) (ms : List (List ℕ × Json)) (name : List ℕ) (j : Json) → AddsTokens a b (begin_object ∷ flat_map member_tokens ms) → AddsTokens b c (key name ∷ []) → AddsTokens c d (json_tokens j)
    → AddsTokens a d (begin_object ∷ flat_map member_tokens (ms ++ (name, j) ∷ []))
member_more a b c d ms name j first second third =
    adds_more member_tokens a b d begin_object ms (name, j) first (adds_then b c d (key name ∷ []) (json_tokens j) second third)
