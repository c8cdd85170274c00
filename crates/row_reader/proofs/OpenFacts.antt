-- What the first read of a table does.
use Rattle.std.proofs.Common.{◌≡◌, ℕ, suc, ◌+◌, ◌≤◌, ◌<◌, ◌^◌, List, [], ◌∷◌, length, refl, ap, ◌∙◌, true, false, arith, Bor, inl}
use Rattle.std.specs.Prelude.{Option, None, Some}
use Rattle.csv.specs.Records.{AllText}
use Rattle.csv.specs.Reading.{default_config, has_failed, is_flexible, took_first, ReadRecord, ExplainsRead, strip_bom}
use Rattle.csv.specs.declared.reader.Reader.{Reader}
use Rattle.csv.specs.declared.parser.State.TheVariants as st
use Rattle.csv.specs.declared.error.ErrorKind.{ErrorKind}
use Rattle.csv.specs.declared.error.ErrorKind.TheVariants as kind
use Rattle.row_reader.specs.Records.{Record, records}
use Rattle.row_reader.specs.Rows.{HasBadHeader, RowsView, OpensAs}
use Rattle.row_reader.specs.RowsInside.{IsFresh, IsReading, records_of, view_of}
use Rattle.row_reader.proofs.GoodFacts.{text-all, not-text-all}
use Rattle.row_reader.specs.Faults.{fault_of_kind}
use Rattle.row_reader.specs.declared.rows.RowFault.TheVariants.{BadRecord}
use Rattle.row_reader.proofs.RecordsFacts.{length-records_from}
use Rattle.row_reader.proofs.ReadFacts.{left-record, left-read}
use Rattle.row_reader.proofs.RowsFacts.{known, remaining}

length-strip_bom : (xs : List ℕ) → length (strip_bom xs) ≤ length xs
unfolding strip_bom
length-strip_bom [] = omega arith
length-strip_bom (a ∷ []) = omega arith
length-strip_bom (a ∷ b ∷ []) = omega arith
length-strip_bom (a ∷ b ∷ c ∷ rest) = grind arith

few : (text : List ℕ) → length text < 2 ^ 63 → length (records text) < 2 ^ 64
few text h = let e = length-records_from default_config (length (strip_bom text) + 1) st.StartRecord (strip_bom text) in
    let k = length-strip_bom text in omega arith

opens-cons : (all : List Record) (h : Record) (rest : List Record) (v : RowsView) → all ≡ h ∷ rest → AllText h
    → v ≡ record { header = h; line = 1; rest = rest; fault = None } → OpensAs all v
opens-cons all h rest v e text w = rw e (text-all h text, w)

opens-nil : (all : List Record) (v : RowsView) → all ≡ [] → v ≡ record { header = []; line = 1; rest = []; fault = None } → OpensAs all v
opens-nil all v e w = rw e w

bad-head : (all : List Record) (h : Record) (rest : List Record) → all ≡ h ∷ rest → ¬ AllText h → HasBadHeader all
bad-head all h rest e n = rw e (not-text-all h n)

no-length : (o : Option ℕ) (k : ℕ) → o ≡ None → o ≡ Some k → ⊥
no-length o k a b = cc

bad-lines : (l m : ℕ) → BadRecord l ≡ BadRecord m → m ≡ l
bad-lines l m e = cc

-- the first read takes the reader r of a text to b
module _ (text : List ℕ) (r b : Reader (Bor (List ℕ))) (fresh : IsFresh r text) where
  all-left : records text ≡ records_of r
  all-left = rw (fresh.state, fresh.whole) refl

  pub record Opened (header : Record) : Type 0 where
    pub rest : records text ≡ header ∷ records_of b
    pub next : IsReading b header 1

  pub opened : (header : Record) → length text < 2 ^ 63 → ReadRecord remaining r b true header
      → took_first b ≡ true → is_flexible b ≡ is_flexible r → has_failed b ≡ has_failed r → Opened header
  opened header h read first flexible running =
      let rest : records text ≡ header ∷ records_of b = all-left ∙ left-record known r b true header fresh.config fresh.running read in
      let lens : length (records text) ≡ suc (length (records_of b)) = ap length rest in
      let bound : length (records text) < 2 ^ 64 = few text h in
      record {
        rest = rest;
        next = record {
          config = read.2 ∙ fresh.config;
          trim = read.3 ∙ fresh.trim;
          flexible = flexible ∙ fresh.flexible;
          ready = inl first;
          running = running ∙ fresh.running;
          lines = omega arith;
          expected = (read.5 refl fresh.flexible).1;
        };
      }

  pub opens-row : (header : Record) → Opened header → AllText header → OpensAs (records text) (view_of b header 1 false None)
  opens-row header o texts = opens-cons _ _ _ _ o.rest texts refl

  pub opens-empty : (fields : Record) (v : RowsView) → ReadRecord remaining r b false fields
      → v ≡ record { header = []; line = 1; rest = []; fault = None } → OpensAs (records text) v
  opens-empty fields v read w = opens-nil _ v (all-left ∙ left-record known r b false fields fresh.config fresh.running read) w

  pub bad-open : (k : ErrorKind) (l : ℕ) → ExplainsRead remaining r b true k → fault_of_kind k 1 ≡ BadRecord l
      → (l ≡ 1) × HasBadHeader (records text)
  bad-open (kind.UnequalLengths pos expected len) l h e = absurd (no-length _ _ fresh.expected h.1)
  bad-open (kind.Utf8 pos err) l h e =
      (bad-lines 1 l e, bad-head _ h.1 _ (all-left ∙ left-read known r b true h.1 fresh.config fresh.running h.2) h.3)
  bad-open (kind.Io er) l h e = absurd cc
  bad-open kind.OutOfMemory l h e = absurd cc
  bad-open (kind.Serialize why) l h e = absurd h
  bad-open (kind.Deserialize pos err) l h e = absurd h
