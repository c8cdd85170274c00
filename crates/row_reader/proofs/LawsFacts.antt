-- The rows and the first fault that records give, against what the laws say of them.
use Rattle.std.proofs.Common.{◌≡◌, ℕ, zero, suc, ◌+◌, List, [], ◌∷◌, ◌++◌, length, take, length-append, append-nil, append_assoc, refl, ap, sym, ◌∙◌, arith}
use Rattle.std.specs.Prelude.{Some, Ok, Err, slice_get, ◌↔◌}
use Rattle.desk_io.specs.declared.desk.Table.{Table}
use Rattle.row_reader.specs.Records.{Record}
use Rattle.row_reader.specs.Faults.{fault_of}
use Rattle.row_reader.specs.FirstFault.{Judge, rows_from}
use Rattle.row_reader.specs.Laws.{AreOwn, AreAccepted, IsFirstFault}
use Rattle.row_reader.specs.declared.faults.TableFault.{TableFault}
use Rattle.row_reader.proofs.FirstFaultFacts.{from-ok, from-err, from-end}

module _ {R : Type 0} (judge : Judge R) where
  own-none : (before : List R) → AreOwn judge before [] []
  own-none before = record { count = refl; each = λ k r row e. absurd cc }

  -- a first record and its row, and then the others
  own-more : (before : List R) (r : Record) (rest : List Record) (x : R) (own : List R)
      → judge before r ≡ Ok x → AreOwn judge (before ++ x ∷ []) rest own → AreOwn judge before (r ∷ rest) (x ∷ own)
  own-more before r rest x own j o = record { count = ap suc o.count; each = each }
    where
      each : (k : ℕ) (q : Record) (row : R) → slice_get (r ∷ rest) k ≡ Some q → slice_get (x ∷ own) k ≡ Some row
          → judge (before ++ take k (x ∷ own)) q ≡ Ok row
      each zero q row e f = rw (append-nil before, (let same : q ≡ r = cc in same), (let same : row ≡ x = cc in same)) j
      each (suc k) q row e f = rw (← append_assoc before (x ∷ []) (take k own)) (o.each k q row e f)

  own-first : (before : List R) (r : Record) (rest : List Record) (x : R) (own : List R)
      → AreOwn judge before (r ∷ rest) (x ∷ own) → judge before r ≡ Ok x
  own-first before r rest x own o = rw (append-nil before) at (o.each 0 r x refl refl)

  own-rest : (before : List R) (r : Record) (rest : List Record) (x : R) (own : List R)
      → AreOwn judge before (r ∷ rest) (x ∷ own) → AreOwn judge (before ++ x ∷ []) rest own
  own-rest before r rest x own o = record {
    count = (let e = o.count in omega arith);
    each = λ k q row e f. rw (append_assoc before (x ∷ []) (take k own)) (o.each (suc k) q row e f);
  }

module _ {R : Type 0} (table : Table) (judge : Judge R) where
  -- past records that have rows
  past-own : (before : List R) (earlier later : List Record) (own : List R) → AreOwn judge before earlier own
      → rows_from table judge before (earlier ++ later) ≡ rows_from table judge (before ++ own) later
  past-own before [] later [] o = rw (append-nil before) refl
  past-own before [] later (x ∷ own) o = absurd (let e = o.count in omega arith)
  past-own before (r ∷ rest) later [] o = absurd (let e = o.count in omega arith)
  past-own before (r ∷ rest) later (x ∷ own) o =
      from-ok table judge before (r ∷ (rest ++ later)) (rest ++ later) r x refl (own-first judge before r rest x own o)
      ∙ past-own (before ++ x ∷ []) rest later own (own-rest judge before r rest x own o)
      ∙ ap (λ l. rows_from table judge l later) (append_assoc before (x ∷ []) own)

  accepted-rows : (before : List R) (records : List Record) (rows : List R) → rows_from table judge before records ≡ Ok rows
      → AreAccepted judge before records rows
  accepted-rows before [] rows e = record {
    own = [];
    joined = (let f : rows ≡ before = (let g = sym (from-end table judge before [] refl) ∙ e in cc) in f ∙ sym (append-nil before));
    are_own = own-none judge before;
  }
  accepted-rows before (r ∷ rest) rows e =
      elim (judge before r) as (λ v. judge before r ≡ v → AreAccepted judge before (r ∷ rest) rows) [
        | Ok x ↦ λ j.
            let a = accepted-rows (before ++ x ∷ []) rest rows (sym (from-ok table judge before (r ∷ rest) rest r x refl j) ∙ e) in
            record {
              own = x ∷ a.own;
              joined = a.joined ∙ append_assoc before (x ∷ []) a.own;
              are_own = own-more judge before r rest x a.own j a.are_own;
            }
        | Err c ↦ λ j. absurd (let g = sym (from-err table judge before (r ∷ rest) rest r c refl j) ∙ e in cc)
      ] refl

  rows-of-accepted : (before : List R) (records : List Record) (rows : List R) → AreAccepted judge before records rows
      → rows_from table judge before records ≡ Ok rows
  rows-of-accepted before records rows a =
      ap (λ l. rows_from table judge before l) (sym (append-nil records))
      ∙ past-own before records [] a.own a.are_own
      ∙ from-end table judge (before ++ a.own) [] refl ∙ ap Ok (sym a.joined)

  first-fault : (before : List R) (records : List Record) (fault : TableFault) → rows_from table judge before records ≡ Err fault
      → IsFirstFault table judge before records fault
  first-fault before [] fault e = absurd (let g = sym (from-end table judge before [] refl) ∙ e in cc)
  first-fault before (r ∷ rest) fault e =
      elim (judge before r) as (λ v. judge before r ≡ v → IsFirstFault table judge before (r ∷ rest) fault) [
        | Ok x ↦ λ j.
            let f = first-fault (before ++ x ∷ []) rest fault (sym (from-ok table judge before (r ∷ rest) rest r x refl j) ∙ e) in
            let n : length (before ++ x ∷ []) + length f.earlier + 2 ≡ length before + length (r ∷ f.earlier) + 2 = omega (arith, length-append before (x ∷ [])) in
            record {
              earlier = r ∷ f.earlier;
              bad = f.bad;
              later = f.later;
              parted = ap (λ l. r ∷ l) f.parted;
              own = x ∷ f.own;
              are_own = own-more judge before r f.earlier x f.own j f.are_own;
              complaint = f.complaint;
              complains = rw (← append_assoc before (x ∷ []) f.own) f.complains;
              told = f.told ∙ ap (λ k. fault_of table k f.complaint) n;
            }
        | Err c ↦ λ j.
            let g : fault ≡ fault_of table (length before + 2) c = (let h = sym (from-err table judge before (r ∷ rest) rest r c refl j) ∙ e in cc) in
            let n : length before + 2 ≡ length before + 0 + 2 = omega arith in
            record {
              earlier = [];
              bad = r;
              later = rest;
              parted = refl;
              own = [];
              are_own = own-none judge before;
              complaint = c;
              complains = rw (append-nil before) j;
              told = g ∙ ap (λ k. fault_of table k c) n;
            }
      ] refl

  fault-of-first : (before : List R) (records : List Record) (fault : TableFault) → IsFirstFault table judge before records fault
      → rows_from table judge before records ≡ Err fault
  fault-of-first before records fault f =
      let n : length (before ++ f.own) + 2 ≡ length before + length f.earlier + 2 = (let c = f.are_own.count in omega (arith, length-append before f.own)) in
      ap (λ l. rows_from table judge before l) f.parted
      ∙ past-own before f.earlier (f.bad ∷ f.later) f.own f.are_own
      ∙ from-err table judge (before ++ f.own) (f.bad ∷ f.later) f.later f.bad f.complaint refl f.complains
      ∙ ap (λ k. Err (fault_of table k f.complaint)) n ∙ ap Err (sym f.told)

  pub accepted-both : (before : List R) (records : List Record) (rows : List R)
      → (rows_from table judge before records ≡ Ok rows) ↔ AreAccepted judge before records rows
  accepted-both before records rows = (accepted-rows before records rows, rows-of-accepted before records rows)

  pub fault-both : (before : List R) (records : List Record) (fault : TableFault)
      → (rows_from table judge before records ≡ Err fault) ↔ IsFirstFault table judge before records fault
  fault-both before records fault = (first-fault before records fault, fault-of-first before records fault)
