-- Lists and records are two forms of one thing: no place is spare, and no field is left out; and an answer to lists is the answer to the record that they are. Definitions and statements
-- only.
use Rattle.std.specs.Prelude.{ℕ, ◌≡◌, true, List, length, Float}
use Rattle.optim_record.specs.declared.Record.{Record}
use Rattle.optim.specs.Answer.{answer_of}
use Rattle.optim_lists.specs.Layout.{mark_count, number_count}
use Rattle.optim_lists.specs.Lists.{Lists, record_of, lists_of, formed_of}
use Rattle.optim_lists.specs.Answered.{answered_of, started_of}

-- lists as long as their arrays are, of those that are read place by place
pub record Long (l : Lists) : Type 0 where
  pub marks : length l.marks ≡ mark_count
  pub numbers : length l.numbers ≡ number_count
  pub points : length l.points ≡ 17
  pub values : length l.values ≡ 17
  pub steps : length l.steps ≡ 16
  pub changes : length l.changes ≡ 16
  pub factors : length l.factors ≡ 16

pub record ListsLaws : Type 0 where
  -- a record's one form is read back as it, and its flags are known marks
  pub record_back : (r : Record) → record_of (lists_of r) ≡ r
  pub formed : (r : Record) → formed_of (lists_of r) ≡ true
  -- lists whose flags are known marks are the one form of their record
  pub lists_back : (l : Lists) → Long l → formed_of l ≡ true → lists_of (record_of l) ≡ l
  -- so those that are the same record are the same lists: what code that changes lists where they lie has to show
  pub same_lists : (l k : Lists) → Long l → Long k → formed_of l ≡ true → formed_of k ≡ true → record_of l ≡ record_of k → l ≡ k

-- ---- an answer to lists is the answer to the record that they are

pub record ListsAnswer : Type 0 where
  -- of lists whose flags are known marks, forged ones too
  pub answer_replies : (l : Lists) (number kind : ℕ) (words : List Float) → formed_of l ≡ true → (answered_of l number kind words).0 ≡ (answer_of (record_of l) number kind words).0
  pub answer_leaves : (l : Lists) (number kind : ℕ) (words : List Float) → formed_of l ≡ true → record_of (answered_of l number kind words).1 ≡ (answer_of (record_of l) number kind words).1
  pub stays_formed : (l : Lists) (number kind : ℕ) (words : List Float) → formed_of l ≡ true → formed_of (answered_of l number kind words).1 ≡ true
  -- of the one form of a record: the one form of the record that the answer leaves
  pub one_form : (r : Record) (number kind : ℕ) (words : List Float) → answered_of (lists_of r) number kind words ≡ started_of (answer_of r number kind words)
