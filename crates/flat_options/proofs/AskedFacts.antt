-- Lists of names and words, one at a time.
use Rattle.std.proofs.Common.{◌≡◌, ◌∙◌, ◌<◌, ◌+◌, ◌||◌, ℕ, Bool, true, false, zero, suc, refl, sym, ap, arith, List, [], ◌∷◌, ◌++◌, ◌-◌, map, take, drop, length, length-drop, take_all, append_assoc, take-suc, add-one}
use Rattle.std.specs.List.{list_any, slice_index_or}
use Rattle.std.proofs.lemmas.List.{map-append, drop-map}
use Rattle.clap.specs.Walk.{Rule}
use Rattle.clap.specs.Simple.{App}
use Rattle.clap.specs.declared.builder.action.ArgAction.TheVariants.{Set, SetTrue}
use Rattle.flat_options.specs.Uses.{Takes, Text}
use Rattle.flat_options.specs.Asked.{asked, asked_app, asked_numbers, bare_app, with_rules}

pub any_at : {X : Type 0} (p : Text → Bool) (f : X → Text) (xs : List X) (i : ℕ) (d : X)
    → i < length xs → p (f (slice_index_or xs i d)) ≡ true → true ≡ list_any p (map f xs)
any_at p f [] i d within e = absurd (omega arith)
any_at p f (x ∷ xs) zero d within e = sym (ap (λ b. b || list_any p (map f xs)) e)
any_at p f (x ∷ xs) (suc i) d within e = sym (ap (λ b. p (f x) || b)
    (sym (any_at p f xs i d (omega arith) e)) ∙ or_true (p (f x)))
  where
    or_true : (b : Bool) → (b || true) ≡ true
    or_true true = refl
    or_true false = refl

-- arguments behind arguments
with_more : (a : App) (rs ss : List Rule)
    → with_rules ss (with_rules rs a) ≡ with_rules (rs ++ ss) a
with_more a rs ss =
    ap (λ rules. record a { top = record a.top { rules = rules } }) (append_assoc a.top.rules rs ss)

-- the names of one element more are as many arguments more behind the others
pub one_more : {X : Type 0} (rule : Text → Rule) (names : List X → List Text)
    → ((xs ys : List X) → names (xs ++ ys) ≡ names xs ++ names ys)
    → (xs : List X) (i : ℕ) (x : X) (first before after : App) → i < length xs
    → before ≡ with_rules (map rule (names (take i xs))) first
    → after ≡ with_rules (map rule (names (slice_index_or xs i x ∷ []))) before
    → after ≡ with_rules (map rule (names (take (i + 1) xs))) first
one_more rule names by_parts xs i x first before after within was is =
    let last = slice_index_or xs i x ∷ [] in
    is ∙ ap (with_rules (map rule (names last))) was
    ∙ with_more first (map rule (names (take i xs))) (map rule (names last))
    ∙ ap (λ rs. with_rules rs first) (sym (map-append rule (names (take i xs)) (names last)))
    ∙ ap (λ ns. with_rules (map rule ns) first) (sym (by_parts (take i xs) last)
    ∙ ap names (sym (take-suc xs i x within) ∙ ap (λ k. take k xs) (sym (add-one i))))

pub whole_app : (name : Text) (takes : Takes) (bare with_values with_all whole : App)
    (os fs : List Text) (number : Bool) → bare ≡ bare_app name → os ≡ takes.options
    → fs ≡ takes.flags → with_values ≡ with_rules (map (asked Set) os) bare
    → with_all ≡ with_rules (map (asked SetTrue) fs) with_values → number ≡ takes.number
    → whole ≡ with_rules (asked_numbers number) with_all → whole ≡ asked_app name takes
whole_app name takes bare with_values with_all whole os fs number at_first options flags values all last is =
    rw (is, all, values, at_first, options, flags, last)
    (with_more (with_rules (map (asked Set) takes.options) (bare_app name))
    (map (asked SetTrue) takes.flags) (asked_numbers takes.number)
    ∙ with_more (bare_app name) (map (asked Set) takes.options)
    (map (asked SetTrue) takes.flags ++ asked_numbers takes.number))

-- the slice behind the first word
pub behind_first : {X : Type 0} (f : X → Text) (xs : List X)
    → map f (take (length xs - 1) (drop 1 xs)) ≡ drop 1 (map f xs)
behind_first f xs =
    ap (map f) (take_all (length xs - 1) (drop 1 xs) (omega (arith, length-drop 1 xs)))
    ∙ sym (drop-map f 1 xs)
