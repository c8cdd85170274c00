-- What one read of `csv` does to the records that are left.
use Rattle.std.proofs.Common.{◌≡◌, ℕ, List, [], ◌∷◌, refl, Bool, true, false}
use Rattle.std.specs.Prelude.{Option, None, Some, if◌then◌else◌, ◌==◌, ◌&&◌, not}
use Rattle.csv.specs.Machine.{Read, next_record}
use Rattle.csv.specs.Reading.{default_config, source_of, pending_of, has_failed, reader_state, reader_config, ReadsNext, NextIs, ReadRecord}
use Rattle.csv.specs.declared.reader.Reader.{Reader}
use Rattle.csv.specs.declared.parser.State.{State}
use Rattle.row_reader.specs.Records.{Record}
use Rattle.row_reader.specs.RowsInside.{records_left}
use Rattle.row_reader.proofs.RecordsFacts.{records-none, records-some}

-- the bytes that are left are known until the reader fails
told : {R : Type 0} (known : R → List ℕ) (a : Reader R) → has_failed a ≡ false → (xs : List ℕ) × (source_of (λ s. Some (known s)) a ≡ Some xs)
told known a runs = rw runs (known-unread (not a.bom_checked && (a.at == 0) && (a.filled == 0)) _ _)
  where
    known-unread : (b : Bool) (x y : List ℕ) → (xs : List ℕ) × ((if b then Some x else Some y) ≡ Some xs)
    known-unread true x y = (x, refl)
    known-unread false x y = (y, refl)

-- after a read the bytes that are left are those that it left
after-read : {R : Type 0} (rem : R → Option (List ℕ)) (a : Reader R) → a.bom_checked ≡ true → source_of rem a ≡ pending_of (rem a.rdr) a
after-read rem a checked = rw checked refl

-- the records from a state, from what the read of one shows
pub left-next : (s s2 : State) (xs ys : List ℕ) (found : Bool) (fields : Record) → NextIs (next_record default_config s [] [] xs) found fields s2 ys
    → records_left s (Some xs) ≡ (if found then fields ∷ records_left s2 (Some ys) else [])
left-next s s2 xs ys found fields h = left-of (next_record default_config s [] [] xs) refl h
  where
    left-of : (o : Option Read) → next_record default_config s [] [] xs ≡ o → NextIs o found fields s2 ys
        → records_left s (Some xs) ≡ (if found then fields ∷ records_left s2 (Some ys) else [])
    left-of None e h = rw h (records-none default_config s xs e)
    left-of (Some r) e h = rw (h.0, h.1, h.2, h.3) (records-some default_config s xs r e)

left-reads : (s s2 : State) (xs : List ℕ) (b : Option (List ℕ)) (found : Bool) (fields : Record) → ReadsNext default_config s (Some xs) b found fields s2
    → records_left s (Some xs) ≡ (if found then fields ∷ records_left s2 b else [])
left-reads s s2 xs None found fields h = absurd h
left-reads s s2 xs (Some ys) found fields h = left-next s s2 xs ys found fields h

-- a read of one record, over a reader of known bytes
pub left-read : {R : Type 0} (known : R → List ℕ) (a b : Reader R) (found : Bool) (fields : Record)
    → reader_config a ≡ default_config → has_failed a ≡ false
    → ReadsNext a.config a.state (source_of (λ s. Some (known s)) a) (pending_of (Some (known b.rdr)) b) found fields b.state
    → records_left (reader_state a) (source_of (λ s. Some (known s)) a) ≡ (if found then fields ∷ records_left (reader_state b) (pending_of (Some (known b.rdr)) b) else [])
left-read known a b found fields config runs h =
    let t : (xs : List ℕ) × (source_of (λ s. Some (known s)) a ≡ Some xs) = told known a runs in
    let h2 = rw (config, t.1) at h in
    rw t.1 (left-reads a.state b.state t.0 _ found fields h2)

-- the same, where the read gave what it found
pub left-record : {R : Type 0} (known : R → List ℕ) (a b : Reader R) (found : Bool) (fields : Record)
    → reader_config a ≡ default_config → has_failed a ≡ false → ReadRecord (λ s. Some (known s)) a b found fields
    → records_left (reader_state a) (source_of (λ s. Some (known s)) a) ≡ (if found then fields ∷ records_left (reader_state b) (source_of (λ s. Some (known s)) b) else [])
left-record known a b found fields config runs h =
    rw (after-read (λ s. Some (known s)) b h.1) (left-read known a b found fields config runs h.0)
