-- The values that pieces of a text write.
use Rattle.std.proofs.Common.{◌≡◌, ◌∙◌, ◌<◌, ◌+◌, ℕ, Bor, zero, suc, refl, sym, ap, ap₂, subst, arith, List, [], ◌∷◌, ◌++◌, take, length, nat_le, Option, Some, None, take-suc, add-one}
use Rattle.std.proofs.lemmas.Bool.{leb-true}
use Rattle.std.proofs.lemmas.List.{map-append}
use Rattle.std.proofs.lemmas.List.Elements.{All-nil, All-cons}
use Rattle.std.proofs.lemmas.List.Splits.{length-slice_split}
use Rattle.std.proofs.lemmas.Option.{same_Some}
use Rattle.std.specs.Prelude.{option_and_then, option_map}
use Rattle.std.specs.List.{All, slice_index_or}
use Rattle.clap.specs.Walk.{texts}
use Rattle.flat_options.specs.Uses.{Text}
use Rattle.dta_words.specs.Pieces.{is_semicolon, list_of, pieces_of, value_before, values_of}
use Rattle.dta_words.specs.Ranges.{IsBetween}
use Rattle.dta_words.proofs.NumberFacts.{chosen}

-- one value behind others, where there are such
abbrev value_behind : Option (List ℕ) → Option ℕ → Option (List ℕ)
value_behind before last = option_and_then (λ ns. option_map (λ n. ns ++ n ∷ []) last) before

alone : (n : Option ℕ) → value_before n (Some []) ≡ value_behind (Some []) n
alone None = refl
alone (Some n) = refl

either_end : (first : Option ℕ) (ns : Option (List ℕ)) (last : Option ℕ)
    → value_before first (value_behind ns last) ≡ value_behind (value_before first ns) last
either_end None ns last = refl
either_end (Some first) None last = refl
either_end (Some first) (Some ns) None = refl
either_end (Some first) (Some ns) (Some last) = refl

before_none : (n : Option ℕ) → None ≡ value_before n None
before_none None = refl
before_none (Some n) = refl

parts : {P : Type 0} (first : Option ℕ) (rest : Option (List ℕ)) (ns : List ℕ)
    → Some ns ≡ value_before first rest
    → ((n : ℕ) (others : List ℕ) → first ≡ Some n → rest ≡ Some others → ns ≡ n ∷ others → P) → P
parts None rest ns e next = absurd cc
parts (Some n) None ns e next = absurd cc
parts (Some n) (Some others) ns e next = next n others refl refl (same_Some _ _ e)

module _ (value : Text → Option ℕ) where
  one_more : (pieces : List Text) (piece : Text)
      → values_of value (pieces ++ piece ∷ []) ≡ value_behind (values_of value pieces) (value piece)
  one_more [] piece = alone (value piece)
  one_more (first ∷ pieces) piece =
      ap (value_before (value first)) (one_more pieces piece)
      ∙ either_end (value first) (values_of value pieces) (value piece)

  -- one more piece that writes a value
  pub one_more_value : (pieces : List (Bor Text)) (i : ℕ) (d : Bor Text) (ns : List ℕ) (n : ℕ)
      → i < length pieces → values_of value (texts (take i pieces)) ≡ Some ns
      → Some n ≡ value (slice_index_or pieces i d).now
      → values_of value (texts (take (i + 1) pieces)) ≡ Some (ns ++ n ∷ [])
  one_more_value pieces i d ns n within before this =
      ap (λ k. values_of value (texts (take k pieces))) (add-one i)
      ∙ ap (λ ps. values_of value (texts ps)) (take-suc pieces i d within)
      ∙ ap (values_of value)
      (map-append (λ (s : Bor Text). s.now) (take i pieces) (slice_index_or pieces i d ∷ []))
      ∙ one_more (texts (take i pieces)) (slice_index_or pieces i d).now
      ∙ ap₂ value_behind before (sym this)

  -- one piece that writes no value
  pub no_value : (pieces : List (Bor Text)) (i : ℕ) (d : Bor Text) → i < length pieces
      → None ≡ value (slice_index_or pieces i d).now → None ≡ values_of value (texts pieces)
  no_value [] i d within e = absurd (omega arith)
  no_value (piece ∷ pieces) zero d within e =
      ap (λ o. value_before o (values_of value (texts pieces))) e
  no_value (piece ∷ pieces) (suc i) d within e =
      before_none (value piece.now)
      ∙ ap (value_before (value piece.now)) (no_value pieces i d (omega arith) e)

  each_is : (P : ℕ → Type 0) → ((piece : Text) (n : ℕ) → value piece ≡ Some n → P n)
      → (pieces : List Text) (ns : List ℕ) → Some ns ≡ values_of value pieces → All P ns
  each_is P is [] ns e = subst (All P) (sym (same_Some _ _ e)) (All-nil P)
  each_is P is (piece ∷ pieces) ns e =
      parts (value piece) (values_of value pieces) ns e (λ n others this rest same.
      subst (All P) (sym same)
      (All-cons P n others (is piece n this) (each_is P is pieces others (sym rest))))

  as_many : (pieces : List Text) (ns : List ℕ) → Some ns ≡ values_of value pieces
      → length ns ≡ length pieces
  as_many [] ns e = ap length (same_Some _ _ e)
  as_many (piece ∷ pieces) ns e =
      parts (value piece) (values_of value pieces) ns e (λ n others this rest same.
      ap length same ∙ ap suc (as_many pieces others (sym rest)))

  -- the values that a text writes
  pub list_within : (P : ℕ → Type 0) → ((piece : Text) (n : ℕ) → value piece ≡ Some n → P n)
      → (most : ℕ) (text : Text) (ns : List ℕ) → list_of most value text ≡ Some ns
      → IsBetween 1 most (length ns) × All P ns
  list_within P is most text ns e =
      let few = chosen (nat_le (length (pieces_of text)) most) _ ns e in
      let fits = leb-true (length (pieces_of text)) most few.0 in
      let many = as_many (pieces_of text) ns (sym few.1) in (
        (omega (arith, many, length-slice_split is_semicolon text), omega (arith, many, fits)),
        each_is P is (pieces_of text) ns (sym few.1),
      )
