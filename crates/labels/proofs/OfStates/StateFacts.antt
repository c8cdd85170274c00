-- States of links.
use Rattle.std.proofs.Common.{◌≡◌, ◌≢◌, ◌⊎◌, inl, inr, ◌∙◌, ℕ, zero, suc, ◌+◌, ◌<◌, ◌≤◌, true, false, List, [], ◌∷◌, ◌++◌, length, ap, sym, subst, refl, arith, get_or, replicate}
use Rattle.std.specs.Prelude.{All, nat_lt, slice_set}
use Rattle.std.proofs.lemmas.Bool.{cases_lt}
use Rattle.std.proofs.lemmas.Bool.Decides.{nat_tests, eqb_tells}
use Rattle.std.proofs.Math.Dec.{eqb}
use Rattle.std.proofs.lemmas.Grind.{common_steps, get_or-set_at, get_or_default_zero}
use Rattle.std.proofs.lemmas.List.{get_or-replicate, get_or-set_other, length-append, length-set, get_or_append_left, get_or-append-add}
use Rattle.std.proofs.lemmas.List.Elements.{All-append}
use Rattle.net_core.specs.Network.{is_named, link_at, turn, turn_at}
use Rattle.net_core.specs.declared.rows.NetRows.{NetRows}
use Rattle.labels.specs.States.Onwards.{AreStates}
use Rattle.labels.specs.States.Routers.{wait_between}
use Rattle.labels.specs.States.LinkStates.{IsLed, AreLed, AreAtNodes, Grows}
use Rattle.labels.specs.declared.states.link_states.TheConstants.{NO_STATE}

-- where no turn is listed, links that end there go on by the same turns
pub shared_turns : (net : NetRows) (a l b : ℕ) → a < length net.links → l < length net.links → (link_at net a).to ≡ (link_at net l).to → is_named net (link_at net l).to.0 ≡ false → wait_between net a b ≡ wait_between net l b
unfolding wait_between turn turn_at
shared_turns net a l b ha hl same named =
    let p : nat_lt a (length net.links) ≡ true = grind (arith, nat_tests) in
    let q : nat_lt l (length net.links) ≡ true = grind (arith, nat_tests) in
    rw (p, q, same, named) refl

-- states stay led as more come
pub led_more : (net : NetRows) (old new : List ℕ) (link l s : ℕ) → Grows old link new → IsLed net old l s → IsLed net new l s
led_more net old new link l s (inl same) led = subst (λ ls. IsLed net ls l s) (sym same) led
led_more net old new link l s (inr grown) led =
    let lead : get_or new s 0 ≡ get_or old s 0 = ap (λ ls. get_or ls s 0) grown ∙ get_or_append_left old (link ∷ []) 0 s led.inside in record {
      inside = let n : length new ≡ length old + 1 = ap (λ ls. length ls) grown ∙ length-append old (link ∷ []) in omega (arith, n, led.inside);
      ends = ap (λ a. (link_at net a).to) lead ∙ led.ends;
      turns = λ b. ap (λ a. wait_between net a b) lead ∙ led.turns b;
    }

-- the last state is led by its link
pub led_last : (net : NetRows) (old new : List ℕ) (link : ℕ) → new ≡ old ++ link ∷ [] → IsLed net new link (length old)
led_last net old new link grown =
    let place : length old ≡ length old + 0 = omega arith in
    let lead : get_or new (length old) 0 ≡ link = ap (λ ls. get_or ls (length old) 0) grown ∙ ap (λ n. get_or (old ++ link ∷ []) n 0) place ∙ get_or-append-add old (link ∷ []) 0 0 in record {
      inside = let n : length new ≡ length old + 1 = ap (λ ls. length ls) grown ∙ length-append old (link ∷ []) in omega (arith, n);
      ends = ap (λ a. (link_at net a).to) lead;
      turns = λ b. ap (λ a. wait_between net a b) lead;
    }

-- the state of a node that no turn names leads each link that ends there
pub led_known : (net : NetRows) (leads at_node : List ℕ) (link n state : ℕ) → AreAtNodes net leads at_node → link < length net.links → n ≡ (link_at net link).to.0 → n < length at_node → is_named net n ≡ false → state ≡ get_or at_node n 0 → state ≢ NO_STATE → IsLed net leads link state
led_known net leads at_node link n state at inside is small named here some = record { inside = within; ends = ends; turns = λ b. shared_turns net (get_or leads state 0) link b (at.leading state 0 within) inside ends (subst (λ m. is_named net m ≡ false) is named) }
  where
    some_there : get_or at_node n 0 ≢ NO_STATE
    some_there = subst (λ s. s ≢ NO_STATE) here some

    within : state < length leads
    within = let i = at.inside n some_there small in omega (arith, here, i)

    ends : (link_at net (get_or leads state 0)).to ≡ (link_at net link).to
    ends = ap (λ m. record { 0 = m }) (ap (λ s. (link_at net (get_or leads s 0)).to.0) here ∙ at.ends n some_there small ∙ is)

-- nodes keep their states as more come
pub at_more : (net : NetRows) (old new at_node : List ℕ) (link : ℕ) → link < length net.links → new ≡ old ++ link ∷ [] → AreAtNodes net old at_node → AreAtNodes net new at_node
at_more net old new at_node link inside grown at = record {
  many = at.many;
  leading = subst (λ ls. All (λ a. a < length net.links) ls) (sym grown) (All-append (λ a. a < length net.links) old (link ∷ []) at.leading last);
  inside = λ n some h. (let i = at.inside n some h in let m : length new ≡ length old + 1 = ap (λ ls. length ls) grown ∙ length-append old (link ∷ []) in omega (arith, i, m));
  ends = λ n some h. ap (λ a. (link_at net a).to.0) (ap (λ ls. get_or ls (get_or at_node n 0) 0) grown ∙ get_or_append_left old (link ∷ []) 0 (get_or at_node n 0) (at.inside n some h)) ∙ at.ends n some h;
}
  where
    last : All (λ a. a < length net.links) (link ∷ [])
    last zero d h = inside
    last (suc k) d h = absurd (omega arith)

-- a node gets the last state
pub at_set : (net : NetRows) (old new nodes : List ℕ) (link n : ℕ) → link < length net.links → n ≡ (link_at net link).to.0 → new ≡ old ++ link ∷ [] → AreAtNodes net old nodes → AreAtNodes net new (slice_set nodes n (length old))
at_set net old new nodes link n inside is grown at = record { many = length-set nodes n (length old) ∙ at.many; leading = more.leading; inside = λ m some h. inside_at m some h (cases m); ends = λ m some h. ends_at m some h (cases m) }
  where
    more : AreAtNodes net new nodes
    more = at_more net old new nodes link inside grown at

    cases : (m : ℕ) → ((eqb m n ≡ true) × (m ≡ n)) ⊎ ((eqb m n ≡ false) × (m ≢ n))
    cases m = eqb_tells m n

    now : (m : ℕ) → m ≡ n → m < length (slice_set nodes n (length old)) → get_or (slice_set nodes n (length old)) m 0 ≡ length old
    now m same h = get_or-set_at nodes n m (length old) 0 same (let l = length-set nodes n (length old) in omega (arith, same, h, l))

    other : (m : ℕ) → m ≢ n → get_or (slice_set nodes n (length old)) m 0 ≡ get_or nodes m 0
    other m differs = get_or-set_other nodes n m (length old) 0 differs

    within : (m : ℕ) → m < length (slice_set nodes n (length old)) → m < length nodes
    within m h = let l = length-set nodes n (length old) in omega (arith, h, l)

    inside_at : (m : ℕ) → get_or (slice_set nodes n (length old)) m 0 ≢ NO_STATE → m < length (slice_set nodes n (length old)) → ((eqb m n ≡ true) × (m ≡ n)) ⊎ ((eqb m n ≡ false) × (m ≢ n)) → get_or (slice_set nodes n (length old)) m 0 < length new
    inside_at m some h (inl (t, same)) = let e = now m same h in let l = (led_last net old new link grown).inside in omega (arith, e, l)
    inside_at m some h (inr (t, differs)) = let e = other m differs in let i = more.inside m (subst (λ x. x ≢ NO_STATE) e some) (within m h) in omega (arith, e, i)

    ends_at : (m : ℕ) → get_or (slice_set nodes n (length old)) m 0 ≢ NO_STATE → m < length (slice_set nodes n (length old)) → ((eqb m n ≡ true) × (m ≡ n)) ⊎ ((eqb m n ≡ false) × (m ≢ n)) → (link_at net (get_or new (get_or (slice_set nodes n (length old)) m 0) 0)).to.0 ≡ m
    ends_at m some h (inl (t, same)) = ap (λ s. (link_at net (get_or new s 0)).to.0) (now m same h) ∙ ap (λ k. k.0) ((led_last net old new link grown).ends) ∙ sym is ∙ sym same
    ends_at m some h (inr (t, differs)) = let e = other m differs in ap (λ s. (link_at net (get_or new s 0)).to.0) e ∙ more.ends m (subst (λ x. x ≢ NO_STATE) e some) (within m h)

-- no node has a state
pub at_no_node : (net : NetRows) (leads at_node : List ℕ) → leads ≡ [] → at_node ≡ replicate (length net.nodes) NO_STATE → AreAtNodes net leads at_node
at_no_node net leads at_node none is = record {
  many = grind (arith, common_steps);
  leading = subst (λ ls. All (λ a. a < length net.links) ls) (sym none) (λ k d h. absurd (omega arith));
  inside = λ n some h. absurd (some (no_state n h));
  ends = λ n some h. absurd (some (no_state n h));
}
  where
    no_state : (n : ℕ) → n < length at_node → get_or at_node n 0 ≡ NO_STATE
    no_state n h = ap (λ xs. get_or xs n 0) is ∙ get_or-replicate (length net.nodes) n NO_STATE 0 (let l : length at_node ≡ length net.nodes = grind (arith, common_steps) in omega (arith, h, l))

-- one more link
pub AreLed_more : (net : NetRows) (states more old new : List ℕ) (link state : ℕ) → more ≡ states ++ state ∷ [] → Grows old link new → IsLed net new link state → AreLed net states old link → AreLed net more new (link + 1)
AreLed_more net states more old new link state added grows now led = record { many = ap (λ xs. length xs) added ∙ length-append states (state ∷ []) ∙ ap (λ n. n + 1) led.many; few = few grows; leading = leading grows; led = λ l h. at_link l h (cases_lt l link) }
  where
    few : Grows old link new → length new ≤ link + 1
    few (inl same) = let n : length new ≡ length old = ap (λ ls. length ls) same in omega (arith, n, led.few)
    few (inr grown) = let n : length new ≡ length old + 1 = ap (λ ls. length ls) grown ∙ length-append old (link ∷ []) in omega (arith, n, led.few)

    still : All (λ a. a < link + 1) old
    still k d h = let b = led.leading k d h in omega (arith, b)

    last : All (λ a. a < link + 1) (link ∷ [])
    last zero d h = omega arith
    last (suc k) d h = absurd (omega arith)

    leading : Grows old link new → All (λ a. a < link + 1) new
    leading (inl same) = subst (λ ls. All (λ a. a < link + 1) ls) (sym same) still
    leading (inr grown) = subst (λ ls. All (λ a. a < link + 1) ls) (sym grown) (All-append (λ a. a < link + 1) old (link ∷ []) still last)

    at_link : (l : ℕ) → l < link + 1 → (l < link) ⊎ (link ≤ l) → IsLed net new l (get_or more l 0)
    at_link l h (inl before) =
        let stands : get_or more l 0 ≡ get_or states l 0 = ap (λ xs. get_or xs l 0) added ∙ get_or_append_left states (state ∷ []) 0 l (omega (arith, before, led.many)) in
        subst (λ s. IsLed net new l s) (sym stands) (led_more net old new link l (get_or states l 0) grows (led.led l before))
    at_link l h (inr above) =
        let here : l ≡ link = omega (arith, h, above) in
        let place : l ≡ length states + 0 = omega (arith, here, led.many) in
        let stands : get_or more l 0 ≡ state = ap (λ xs. get_or xs l 0) added ∙ ap (λ n. get_or (states ++ state ∷ []) n 0) place ∙ get_or-append-add states (state ∷ []) 0 0 in
        subst (λ s. IsLed net new l s) (sym stands) (subst (λ k. IsLed net new k state) (sym here) now)

-- all links
pub states_are : (net : NetRows) (states leads : List ℕ) → AreLed net states leads (length net.links) → AreStates net states leads
states_are net states leads led = record {
  many = led.many;
  inside = λ k d h. (let i = (led.led k (omega (arith, h, led.many))).inside in let z = get_or_default_zero states k d h in omega (arith, i, z));
  few = led.few;
  leading = led.leading;
  ends = λ l h. (led.led l (omega (arith, h, led.many))).ends;
  turns = λ l b h. (led.led l (omega (arith, h, led.many))).turns b;
}

pub ruleset one_more_state = (led_last, at_more)

pub ruleset link_by_link = (at_no_node, AreLed_more, states_are)
