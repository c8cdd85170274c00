-- What one read of a record does to rows.
use Rattle.std.proofs.Common.{◌≡◌, ◌≢◌, ℕ, suc, ◌+◌, ◌-◌, min, ◌<◌, ◌^◌, Bool, List, [], ◌∷◌, length, refl, ap, sym, ◌∙◌, true, false, arith, Bor, inl}
use Rattle.std.specs.Prelude.{Option, None, Some, Ok, Err, IfSome, if◌then◌else◌}
use Rattle.csv.specs.Records.{AllText}
use Rattle.csv.specs.Reading.{has_failed, is_flexible, took_first, ReadRecord, TookRecord, ExplainsRead}
use Rattle.csv.specs.declared.reader.Reader.{Reader}
use Rattle.csv.specs.declared.error.ErrorKind.{ErrorKind}
use Rattle.csv.specs.declared.error.ErrorKind.TheVariants as kind
use Rattle.row_reader.specs.Records.{Record, is_good}
use Rattle.row_reader.specs.Rows.{HasBadNext, ExplainsFault, RowsView, Steps}
use Rattle.row_reader.specs.RowsInside.{IsReading, records_of, view_of}
use Rattle.row_reader.proofs.GoodFacts.{good, not-long, not-text}
use Rattle.row_reader.specs.Faults.{fault_of_kind}
use Rattle.row_reader.specs.declared.rows.RowFault.{RowFault}
use Rattle.row_reader.specs.declared.rows.RowFault.TheVariants.{BadRecord}
use Rattle.row_reader.proofs.ReadFacts.{left-record, left-read}

-- the bytes that a slice has
abbrev pub known : Bor (List ℕ) → List ℕ
known s = s.now

abbrev pub remaining : Bor (List ℕ) → Option (List ℕ)
remaining s = Some s.now

expected-is : (o n : Option ℕ) (k l : ℕ) → o ≡ Some k → IfSome o (λ e. n ≡ Some e) → n ≡ Some l → (l ≡ k) × (n ≡ Some k)
expected-is o n k l e h m = let at : IfSome (Some k) (λ e. n ≡ Some e) = rw e at h in (cc, at)

bad-next : (header fields : Record) (rest more : List Record) → rest ≡ fields ∷ more → is_good header fields ≡ false → HasBadNext header rest
bad-next header fields rest more e h = rw e h

same-len : (o : Option ℕ) (e k n l : ℕ) → o ≡ Some e → o ≡ Some k → n ≡ l → n ≡ k → e ≡ l
same-len o e k n l a b c d = cc

bad-same : (h k : Record) (r t : List Record) → h ≡ k → r ≡ t → HasBadNext h r → HasBadNext k t
bad-same h k r t e f x = rw (← e, ← f) x

not-bad : (h : Record) (r : List Record) → HasBadNext h r → r ≢ []
not-bad h [] x = absurd x
not-bad h (r ∷ rest) x = λ e. absurd cc

below : (l n : ℕ) (xs : List Record) → n + length xs < 2 ^ 64 → l ≡ min (n + 1) (2 ^ 64 - 1) → xs ≢ [] → l ≡ n + 1
below l n [] h e k = absurd (k refl)
below l n (x ∷ xs) h e k = omega arith

-- a read takes the reader r to b, below a header and after the record at a line
module _ (r b : Reader (Bor (List ℕ))) (header : Record) (line : ℕ) where
  pub record Moved (fields : Record) : Type 0 where
    pub rest : records_of r ≡ fields ∷ records_of b
    pub long : length fields ≡ length header
    pub fits : line + 1 < 2 ^ 64
    pub next : IsReading b header (line + 1)

  pub moved : (fields : Record) → IsReading r header line → ReadRecord remaining r b true fields
      → took_first b ≡ true → is_flexible b ≡ is_flexible r → has_failed b ≡ has_failed r → Moved fields
  moved fields s read first flexible running =
      let rest : records_of r ≡ fields ∷ records_of b = left-record known r b true fields s.config s.running read in
      let lens : length (records_of r) ≡ suc (length (records_of b)) = ap length rest in
      let lines : line + length (records_of r) < 2 ^ 64 = s.lines in
      let expected = expected-is _ _ _ _ s.expected (read.5 refl s.flexible).0 (read.5 refl s.flexible).1 in
      record {
        rest = rest;
        long = expected.0;
        fits = omega arith;
        next = record {
          config = read.2 ∙ s.config;
          trim = read.3 ∙ s.trim;
          flexible = flexible ∙ s.flexible;
          ready = inl first;
          running = running ∙ s.running;
          lines = omega arith;
          expected = expected.1;
        };
      }

  -- a read that found none was at the end
  pub at-end : (fields : Record) → IsReading r header line → ReadRecord remaining r b false fields → records_of r ≡ []
  at-end fields s read = left-record known r b false fields s.config s.running read

  -- a read that took a record
  took : (fields : Record) → IsReading r header line → TookRecord remaining r b fields
      → (more : List Record) × (records_of r ≡ fields ∷ more)
  took fields s t = (_, left-read known r b true fields s.config s.running t)

  -- why a read of a record is refused
  refused : (k : ErrorKind) (l : ℕ) → IsReading r header line → ExplainsRead remaining r b true k
      → fault_of_kind k l ≡ BadRecord l → HasBadNext header (records_of r)
  refused (kind.UnequalLengths pos expected len) l s h e =
      let t = took h.3 s h.4 in
      bad-next _ h.3 _ t.0 t.1 (not-long _ h.3 (λ long. h.2 (same-len _ _ _ _ _ h.1 s.expected h.5 long)))
  refused (kind.Utf8 pos err) l s h e =
      let t = took h.1 s h.2 in
      bad-next _ h.1 _ t.0 t.1 (not-text _ h.1 h.3)
  refused (kind.Io er) l s h e = absurd cc
  refused kind.OutOfMemory l s h e = absurd cc
  refused (kind.Serialize text) l s h e = absurd h
  refused (kind.Deserialize pos err) l s h e = absurd h

  pub line-next : (l : ℕ) → IsReading r header line → l ≡ min (line + 1) (2 ^ 64 - 1) → records_of r ≢ [] → l ≡ line + 1
  line-next l s e k = below l line _ s.lines e k

  -- what a caller sees before the read, and the rows didn't end
  module _ (v : RowsView) (ended : Bool) (fault : Option RowFault) (seen : view_of r header line ended fault ≡ v) (runs : ended ≡ false) where
    all-left : (a : Reader (Bor (List ℕ))) → (if ended then [] else records_of a) ≡ records_of a
    all-left a = rw runs refl

    view-rest : v.rest ≡ records_of r
    view-rest = sym (ap (λ (q : RowsView). q.rest) seen) ∙ all-left r

    -- the step that gives a row
    pub step-row : (fields : Record) → Moved fields → AllText fields
        → Steps v (view_of b header (line + 1) ended fault) (Ok (Some (record { fields = fields; line = line + 1 })))
    step-row fields m text = (
      view-rest ∙ m.rest ∙ ap (λ (t : List Record). fields ∷ t) (sym (all-left b)),
      good v.header fields (m.long ∙ ap (λ (q : RowsView). length q.header) seen) text,
      ap (λ (q : RowsView). q.line + 1) seen,
      ap (λ (q : RowsView). record q { line = q.line + 1; rest = if ended then [] else records_of b }) seen,
    )

    -- the step at the end
    pub step-end : records_of r ≡ [] → Steps v (view_of b header line true fault) (Ok None)
    step-end none =
        let all : (if ended then [] else records_of r) ≡ [] = all-left r ∙ none in
        (view-rest ∙ none, ap (λ (t : List Record). record (view_of r header line ended fault) { rest = t }) (sym all) ∙ seen)

    bad-view : (l : ℕ) → (records_of r ≢ [] → l ≡ line + 1) → HasBadNext header (records_of r) → (l ≡ v.line + 1) × HasBadNext v.header v.rest
    bad-view l next bad = (
      next (not-bad _ _ bad) ∙ ap (λ (q : RowsView). q.line + 1) seen,
      bad-same _ _ _ _ (ap (λ (q : RowsView). q.header) seen) (sym view-rest) bad,
    )

    -- why the read answers a fault
    pub explains : (k : ErrorKind) (l : ℕ) → IsReading r header line → ExplainsRead remaining r b true k
        → (records_of r ≢ [] → l ≡ line + 1) → ExplainsFault v (fault_of_kind k l)
    explains (kind.UnequalLengths pos expected len) l s h next = bad-view l next (refused (kind.UnequalLengths pos expected len) l s h refl)
    explains (kind.Utf8 pos err) l s h next = bad-view l next (refused (kind.Utf8 pos err) l s h refl)
    explains (kind.Io er) l s h next = tt
    explains kind.OutOfMemory l s h next = tt
    explains (kind.Serialize text) l s h next = absurd h
    explains (kind.Deserialize pos err) l s h next = absurd h

    -- the step to a fault, which stands from then on
    pub step-fault : (f : RowFault) → ExplainsFault v f → Steps v (view_of b header line ended (Some f)) (Err f)
    step-fault f x = (ap (λ (q : RowsView). record q { rest = if ended then [] else records_of b; fault = Some f }) seen, x)
