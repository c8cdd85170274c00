-- The nodes of a step, one after another: one more that moves, and one more that is left as it is.
use Rattle.std.specs.Prelude.{slice_get, slice_set, ◌≢◌}
use Rattle.std.proofs.Common.{◌≡◌, ℕ, suc, ◌<◌, ◌≤◌, true, false, List, [], length, refl, ap, sym, ◌∙◌, subst, arith, Some, ◌⊎◌, inl, inr, get_or}
use Rattle.std.proofs.lemmas.Bool.{eq-eqb, eqb-true, ne_eqb}
use Rattle.std.proofs.lemmas.Bool.Decides.{eqb_tells}
use Rattle.std.proofs.lemmas.Option.{same_Some, slice_get-get_or, slice_get_within}
use Rattle.std.proofs.Math.Dec.{eqb}
use Rattle.dta_model.specs.Plans.{link_at, outs}
use Rattle.dta_model.specs.Sound.{IsSound}
use Rattle.dta_model.specs.declared.plan.Plan.{Plan}
use Rattle.cell_stages.specs.CellState.{CellState}
use Rattle.cell_stages.specs.Contents.{IsStep, away, batch_of}
use Rattle.cell_stages.specs.Stages.{batch_mail}
use Rattle.cell_stages.specs.declared.mail.Mail.{Mail}
use Rattle.cell_stages.specs.declared.mail.Mail.TheVariants.{Away, Batch, Room}
use Rattle.cell_stages.proofs.MailTells.{none-sent}
use Rattle.node_transfer.specs.Exchange.{AreMail, ArePut, is_among}
use Rattle.node_transfer.specs.Gathered.{mail_line}
use Rattle.node_transfer.specs.Halves.{half_after, half_before, links_by, mail_after, mail_before}
use Rattle.node_transfer.specs.Rest.{IsIdle, IsQuiet, NobodyComes}
use Rattle.node_transfer.specs.declared.half.Half.{Half}
use Rattle.node_transfer.proofs.OfMail.Finished.{from-below, to-below}
use Rattle.node_transfer.proofs.OfMail.Halves.{ends_of, half-among, half-member}
use Rattle.node_transfer.proofs.OfMail.ListPlaces.{among-place}
use Rattle.node_transfer.proofs.OfMail.Parts.{ins-among, ins-member, outs-among, outs-member}
use Rattle.node_transfer.proofs.OfMail.Sets.{count-set, set-got, set-other}
use Rattle.node_transfer.proofs.OfRest.Idle.{quiet_nodes_stay_idle}
use Rattle.node_transfer.proofs.OfStep.MailLines.{batch-line}
use Rattle.serial_loader.specs.Phases.{AreFound, AreLeft, AreReached, AreThere, AreWoken, IsAfter, IsBefore, IsReached, is_batch}

-- where the nodes below k have come: what node n leaves, or what it finds
pub record OneByOne (k n : ℕ) (Left Found : Type 0) : Type 0 where
  pub left : n < k → Left
  pub found : k ≤ n → Found

-- one more node has come
one-more : (k n : ℕ) (Left Found : Type 0) → (n ≡ k → Left) → (n ≢ k → OneByOne k n Left Found) → OneByOne (suc k) n Left Found
one-more k n Left Found here there = by_place (eqb_tells n k)
  where
    by_place : ((eqb n k ≡ true) × (n ≡ k)) ⊎ ((eqb n k ≡ false) × (n ≢ k)) → OneByOne (suc k) n Left Found
    by_place (inl (s, same)) = record { left = λ below. here same; found = λ above. absurd (omega (arith, same, above)) }
    by_place (inr (s, other)) = let T = there other in record { left = λ below. T.left (omega (arith, below, other)); found = λ above. T.found (omega (arith, above)) }

-- a node before a half of a step, and after it
abbrev Found : Half → Plan → ℕ → ℕ → ℕ → CellState → Type 0
Found Half.Transfer p t = IsBefore p t
Found Half.Gather p t = IsAfter p t

abbrev Left : Half → Plan → ℕ → ℕ → ℕ → CellState → Type 0
Left Half.Transfer p t = IsAfter p t
Left Half.Gather p t = IsBefore p (suc t)

-- the links that matter where the nodes below k have come
abbrev Met : Half → Plan → ℕ → ℕ → Type 0
Met Half.Transfer p k l = (link_at p l).from.0 < k
Met Half.Gather p k l = k ≤ (link_at p l).to.0

-- where the nodes below k have done their half of step t
abbrev AreSome : Half → Plan → ℕ → ℕ → List CellState → List ℕ → List Mail → Type 0
AreSome h p t k cells wakes mail =
    AreThere p (λ n w c. OneByOne k n (Left h p t n w c) (Found h p t n w c))
    (λ l m. OneByOne k (ends_of h p l) (m ≡ mail_after h p t l) (m ≡ mail_before h p t l)) cells wakes mail

-- and nobody comes to a node that sleeps
abbrev pub InHalf : Half → Plan → ℕ → ℕ → List CellState → List ℕ → List Mail → Type 0
InHalf h p t k cells wakes mail =
    AreSome h p t k cells wakes mail
    × ((l w : ℕ) → l < length p.net.links → Met h p k l → slice_get wakes (link_at p l).to.0 ≡ Some w → t < w → batch_mail p l t ≡ [])

-- a link with a mail is one of the table
within : (p : Plan) (mail : List Mail) (l : ℕ) (m : Mail) → length mail ≡ length p.net.links → slice_get mail l ≡ Some m → l < length p.net.links
within p mail l m count got = let inside = slice_get_within mail l m got in omega (arith, inside, count)

-- where no node has come, and where all have
module _ (p : Plan) (t : ℕ) (cells : List CellState) (wakes : List ℕ) (mail : List Mail) where
  module _ {Node Node' : ℕ → ℕ → CellState → Type 0} {Link Link' : ℕ → Mail → Type 0} (ends : ℕ → ℕ) where
    none-came : AreThere p Node Link cells wakes mail → AreThere p (λ n w c. OneByOne 0 n (Node' n w c) (Node n w c)) (λ l m. OneByOne 0 (ends l) (Link' l m) (Link l m)) cells wakes mail
    none-came T = record {
      cell_count = T.cell_count;
      wake_count = T.wake_count;
      mail_count = T.mail_count;
      nodes = λ n w c e f. record { left = λ below. absurd (omega (arith, below)); found = λ above. T.nodes n w c e f };
      links = λ l m got. record { left = λ below. absurd (omega (arith, below)); found = λ above. T.links l m got };
    }

    all-came : (k : ℕ) → length p.net.nodes ≤ k → ((l : ℕ) → l < length p.net.links → ends l < k)
        → AreThere p (λ n w c. OneByOne k n (Node' n w c) (Node n w c)) (λ l m. OneByOne k (ends l) (Link' l m) (Link l m)) cells wakes mail → AreThere p Node' Link' cells wakes mail
    all-came k over ends_below T = record {
      cell_count = T.cell_count;
      wake_count = T.wake_count;
      mail_count = T.mail_count;
      nodes = λ n w c e f. let inside = slice_get_within cells n c f in let count = T.cell_count in (T.nodes n w c e f).left (omega (arith, inside, count, over));
      links = λ l m got. (T.links l m got).left (ends_below l (within p mail l m T.mail_count got));
    }

  pub begins : (h : Half) → AreFound h p t cells wakes mail → InHalf h p t 0 cells wakes mail
  begins Half.Transfer T = (none-came (λ l. (link_at p l).from.0) T, λ l w below met at low. absurd (omega (arith, met)))
  begins Half.Gather T = (none-came (λ l. (link_at p l).to.0) T.0, λ l w below met at low. T.1 (link_at p l).to.0 w at low l below refl)

  pub ends : (h : Half) (k : ℕ) → IsSound p → length p.net.nodes ≤ k → InHalf h p t k cells wakes mail → AreLeft h p t cells wakes mail
  ends Half.Transfer k sound over T =
      (all-came (λ l. (link_at p l).from.0) k over (from-below p sound k over) T.0, λ n w at low l below to. T.1 l w below (from-below p sound k over l below) (ap (λ i. slice_get wakes i) to ∙ at) low)
  ends Half.Gather k sound over T = all-came (λ l. (link_at p l).to.0) k over (to-below p sound k over) T.0

-- a node that was woken
awake-before : (p : Plan) (t n w : ℕ) (c : CellState) → IsBefore p t n w c → IsBefore p t n 0 c
awake-before p t n w c b = record { cell = b.cell; sleeps = λ s low. absurd (omega (arith, low)) }

awake-after : (p : Plan) (t n w : ℕ) (c : CellState) → IsAfter p t n w c → IsAfter p t n 0 c
awake-after p t n w c a = record { cell = a.cell; left = λ low. absurd (omega (arith, low)) }

awake-found : (h : Half) (p : Plan) (t n w : ℕ) (c : CellState) → Found h p t n w c → Found h p t n 0 c
awake-found Half.Transfer p t n w c b = awake-before p t n w c b
awake-found Half.Gather p t n w c a = awake-after p t n w c a

awake-left : (h : Half) (p : Plan) (t n w : ℕ) (c : CellState) → Left h p t n w c → Left h p t n 0 c
awake-left Half.Transfer p t n w c a = awake-after p t n w c a
awake-left Half.Gather p t n w c b = awake-before p (suc t) n w c b

cell-found : (h : Half) (p : Plan) (t n w : ℕ) (c : CellState) → Found h p t n w c → c ≡ half_before h p n t away
cell-found Half.Transfer p t n w c b = b.cell
cell-found Half.Gather p t n w c a = a.cell

-- a list in which nothing is changed but what stands at a place
record ChangesAt (n : ℕ) (old new : List CellState) : Type 0 where
  count : length new ≡ length old
  others : (k : ℕ) → k ≢ n → slice_get new k ≡ slice_get old k

set-cell : (n : ℕ) (c : CellState) (cells : List CellState) → ChangesAt n cells (slice_set cells n c)
set-cell n c cells = record { count = count-set cells n c; others = λ k other. set-other cells n k c other }

module _ (h : Half) (p : Plan) (t n : ℕ) (cells : List CellState) (wakes : List ℕ) (mail : List Mail) (T : AreSome h p t n cells wakes mail) where
  -- what the next node finds
  pub finds-cell : (w : ℕ) (c : CellState) → slice_get wakes n ≡ Some w → slice_get cells n ≡ Some c → c ≡ half_before h p n t away
  finds-cell w c wake cell = cell-found h p t n w c ((T.nodes n w c wake cell).found (omega arith))

  pub finds-mail : AreMail (mail_before h p t) (links_by h p n) mail
  finds-mail l is_in =
      let below = half-among h p n l is_in in
      let at : ends_of h p l ≡ n = eqb-true (ends_of h p l) n (sym (half-member h p n l below) ∙ is_in) in
      let count = T.mail_count in
      let got = slice_get-get_or mail l Away (omega (arith, below, count)) in
      got ∙ ap (λ m. Some m) ((T.links l (get_or mail l Away) got).found (omega (arith, at)))

  -- one more node has come
  comes : (cells' : List CellState) (wakes' : List ℕ) (mail' : List Mail) → ChangesAt n cells cells' → length wakes' ≡ length wakes
      → ((k w : ℕ) → k ≢ n → slice_get wakes' k ≡ Some w → (slice_get wakes k ≡ Some w) ⊎ (w ≡ 0))
      → ((w : ℕ) (c : CellState) → slice_get wakes' n ≡ Some w → slice_get cells' n ≡ Some c → Left h p t n w c)
      → ArePut (mail_after h p t) (links_by h p n) mail mail'
      → AreSome h p t (suc n) cells' wakes' mail'
  comes cells' wakes' mail' changed count woken own put = record {
    cell_count = changed.count ∙ T.cell_count;
    wake_count = count ∙ T.wake_count;
    mail_count = mail_count;
    nodes = λ k w c e f. one-more n k (Left h p t k w c) (Found h p t k w c)
        (λ same. subst (λ j. Left h p t j w c) (sym same) (own w c (subst (λ j. slice_get wakes' j ≡ Some w) same e) (subst (λ j. slice_get cells' j ≡ Some c) same f)))
        (λ other. by_two k w c (woken k w other e) (slice_get_within wakes' k w e) (sym (changed.others k other) ∙ f));
    links = λ l m got. one-more n (ends_of h p l) (m ≡ mail_after h p t l) (m ≡ mail_before h p t l)
        (λ same. same_Some m (mail_after h p t l) (sym got ∙ put.own l (member l m got ∙ eq-eqb (ends_of h p l) n same)))
        (λ other. T.links l m (sym (put.others.others l (member l m got ∙ ne_eqb (ends_of h p l) n other)) ∙ got));
  }
    where
      mail_count : length mail' ≡ length p.net.links
      mail_count = put.others.count ∙ T.mail_count

      member : (l : ℕ) (m : Mail) → slice_get mail' l ≡ Some m → is_among (links_by h p n) l ≡ eqb (ends_of h p l) n
      member l m got = half-member h p n l (within p mail' l m mail_count got)

      by_two : (k w : ℕ) (c : CellState) → (slice_get wakes k ≡ Some w) ⊎ (w ≡ 0) → k < length wakes' → slice_get cells k ≡ Some c → OneByOne n k (Left h p t k w c) (Found h p t k w c)
      by_two k w c (inl was) inside f = T.nodes k w c was f
      by_two k w c (inr zero_is) inside f =
          let w0 = get_or wakes k 0 in
          let old = T.nodes k w0 c (slice_get-get_or wakes k 0 (omega (arith, inside, count))) f in
          record {
            left = λ below. subst (λ x. Left h p t k x c) (sym zero_is) (awake-left h p t k w0 c (old.left below));
            found = λ above. subst (λ x. Found h p t k x c) (sym zero_is) (awake-found h p t k w0 c (old.found above));
          }

-- nobody comes with a mail that is no batch
no-line : (m : Mail) → is_batch m ≡ false → mail_line m ≡ []
no-line Away h = refl
no-line (Room s room) h = refl
no-line (Batch s riders) h = cc h

module _ (p : Plan) (t n : ℕ) (cells : List CellState) (wakes : List ℕ) (mail : List Mail) (w : ℕ) (wake : slice_get wakes n ≡ Some w) where
  -- one more transfer
  pub transfers : (h : Half) → h ≡ Half.Transfer → (c' : CellState) (wakes' : List ℕ) (mail' : List Mail) → InHalf h p t n cells wakes mail → w ≤ t
      → c' ≡ half_after h p n t away → ArePut (mail_after h p t) (links_by h p n) mail mail' → AreWoken wakes wakes' → AreReached p n wakes' mail'
      → InHalf h p t (suc n) (slice_set cells n c') wakes' mail'
  transfers Half.Gather e c' wakes' mail' T moves is put woken reached = cc e
  transfers Half.Transfer e c' wakes' mail' T moves is put woken reached = (
    comes Half.Transfer p t n cells wakes mail T.0 (slice_set cells n c') wakes' mail' (set-cell n c' cells) woken.count (λ k v other e. woken.each k v e)
        (λ v c e f. record { cell = set-got cells n c c' f ∙ is; left = λ low. moved v low (woken.each n v e) }) put,
    λ l v below met at low. by_place l v below met at low (eqb_tells (link_at p l).from.0 n),
  )
    where
      moved : {X : Type 0} (v : ℕ) → t < v → (slice_get wakes n ≡ Some v) ⊎ (v ≡ 0) → X
      moved v low (inl was) = let same = same_Some v w (sym was ∙ wake) in absurd (omega (arith, same, low, moves))
      moved v low (inr zero_is) = absurd (omega (arith, zero_is, low))

      by_reached : (l v : ℕ) → slice_get wakes' (link_at p l).to.0 ≡ Some v → t < v → IsReached p wakes' l (batch_of p t l) → batch_mail p l t ≡ []
      by_reached l v at low (inl none) = sym (batch-line p t l) ∙ no-line (batch_of p t l) none
      by_reached l v at low (inr awake) = let zero_is = awake v at in absurd (omega (arith, zero_is, low))

      by_place : (l v : ℕ) → l < length p.net.links → (link_at p l).from.0 < suc n → slice_get wakes' (link_at p l).to.0 ≡ Some v → t < v
          → ((eqb (link_at p l).from.0 n ≡ true) × ((link_at p l).from.0 ≡ n)) ⊎ ((eqb (link_at p l).from.0 n ≡ false) × ((link_at p l).from.0 ≢ n)) → batch_mail p l t ≡ []
      by_place l v below met at low (inl (s, same)) =
          let is_in = outs-member p n l below ∙ s in
          let stands = among-place (outs p n) l is_in in
          by_reached l v at low (reached (stands.0) l (batch_of p t l) (stands.1) (put.own l is_in))
      by_place l v below met at low (inr (s, other)) = by_two (woken.each (link_at p l).to.0 v at)
        where
          by_two : (slice_get wakes (link_at p l).to.0 ≡ Some v) ⊎ (v ≡ 0) → batch_mail p l t ≡ []
          by_two (inl was) = T.1 l v below (omega (arith, met, other)) was low
          by_two (inr zero_is) = absurd (omega (arith, zero_is, low))

  -- one more gather
  pub gathers : (h : Half) → h ≡ Half.Gather → (w' : ℕ) (c' : CellState) (mail' : List Mail) → InHalf h p t n cells wakes mail
      → c' ≡ half_after h p n t away → ((s : ℕ) → s < w' → IsQuiet s c') → ArePut (mail_after h p t) (links_by h p n) mail mail'
      → InHalf h p t (suc n) (slice_set cells n c') (slice_set wakes n w') mail'
  gathers Half.Transfer e w' c' mail' T is quiet put = cc e
  gathers Half.Gather e w' c' mail' T is quiet put = (
    comes Half.Gather p t n cells wakes mail T.0 (slice_set cells n c') (slice_set wakes n w') mail' (set-cell n c' cells) (count-set wakes n w')
        (λ k v other e. inl (sym (set-other wakes n k w' other) ∙ e))
        (λ v c e f. own v c (set-got wakes n v w' e) (set-got cells n c c' f)) put,
    λ l v below met at low. T.1 l v below (omega (arith, met)) (sym (set-other wakes n (link_at p l).to.0 w' (λ same. absurd (omega (arith, same, met)))) ∙ at) low,
  )
    where
      own : (v : ℕ) (c : CellState) → v ≡ w' → c ≡ c' → IsBefore p (suc t) n v c
      own v c e f = record { cell = f ∙ is; sleeps = λ s low. subst (IsQuiet s) (sym f) (quiet s (omega (arith, low, e))) }

  module _ (step : IsStep p n t) (c : CellState) (cell : slice_get cells n ≡ Some c) (low : t < w) where
    idle : IsBefore p t n w c → IsIdle p n t
    idle b = (quiet_nodes_stay_idle p n t step).quiet (subst (IsQuiet t) b.cell (b.sleeps t low))

    -- what stays as it is
    stays : (h : Half) → AreSome h p t n cells wakes mail → Left h p t n w c
        → ((l : ℕ) → is_among (links_by h p n) l ≡ true → mail_before h p t l ≡ mail_after h p t l)
        → AreSome h p t (suc n) cells wakes mail
    stays h T own same =
        comes h p t n cells wakes mail T cells wakes mail (record { count = refl; others = λ k other. refl }) refl (λ k v other e. inl e)
        (λ v d e f. subst (λ x. Left h p t n x d) (same_Some w v (sym wake ∙ e)) (subst (Left h p t n w) (same_Some c d (sym cell ∙ f)) own))
        (record { own = λ l is_in. finds-mail h p t n cells wakes mail T l is_in ∙ ap (λ m. Some m) (same l is_in); others = record { count = refl; others = λ l out. refl } })

    -- one more node that sleeps
    pub sleeps : (h : Half) → InHalf h p t n cells wakes mail → InHalf h p t (suc n) cells wakes mail
    sleeps Half.Transfer T = (
      stays Half.Transfer T.0 (record { cell = before.cell ∙ sym is_idle.after; left = λ later. before })
          (λ l is_in. let below = outs-among p n l is_in in sym (none-sent p t l (is_idle.batches l below (eqb-true (link_at p l).from.0 n (sym (outs-member p n l below) ∙ is_in))))),
      λ l v below met at later. by_place l v below met at later (eqb_tells (link_at p l).from.0 n),
    )
      where
        before : IsBefore p t n w c
        before = (T.0.nodes n w c wake cell).found (omega arith)

        is_idle : IsIdle p n t
        is_idle = idle before

        by_place : (l v : ℕ) → l < length p.net.links → (link_at p l).from.0 < suc n → slice_get wakes (link_at p l).to.0 ≡ Some v → t < v
            → ((eqb (link_at p l).from.0 n ≡ true) × ((link_at p l).from.0 ≡ n)) ⊎ ((eqb (link_at p l).from.0 n ≡ false) × ((link_at p l).from.0 ≢ n)) → batch_mail p l t ≡ []
        by_place l v below met at later (inl (s, same)) = is_idle.batches l below same
        by_place l v below met at later (inr (s, other)) = T.1 l v below (omega (arith, met, other)) at later
    sleeps Half.Gather T = (
      stays Half.Gather T.0 (record { cell = after.cell ∙ sym ((quiet_nodes_stay_idle p n t step).gather nobody); sleeps = (after.left low).sleeps })
          (λ l is_in. let below = ins-among p n l is_in in let to = eqb-true (link_at p l).to.0 n (sym (ins-member p n l below) ∙ is_in) in
          none-sent p t l (nobody l below to) ∙ sym ((idle (after.left low)).rooms nobody l below to)),
      λ l v below met at later. T.1 l v below (omega (arith, met)) at later,
    )
      where
        after : IsAfter p t n w c
        after = (T.0.nodes n w c wake cell).found (omega arith)

        nobody : NobodyComes p n t
        nobody = λ l below to. T.1 l w below (omega (arith, to)) (ap (λ k. slice_get wakes k) to ∙ wake) low
