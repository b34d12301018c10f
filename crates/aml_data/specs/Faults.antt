-- The first fault: the parts before it are spelled in order, and the next part fails. The bytes end at `end`, so a
-- byte that stands before n more has the place end - (n + 1).
use Rattle.std.specs.Prelude.{◌≡◌, ◌≢◌, ℕ, zero, suc, ◌-◌, ◌<◌, ◌≤◌, Bool, true, false, IsTrue, List, [], ◌∷◌, ◌++◌, length}
use Rattle.std.specs.List.{AllByRecursion}
use Rattle.aml_data.specs.declared.opcode.TheConstants.{ZERO_OP, ONE_OP, BYTE_PREFIX, WORD_PREFIX, DWORD_PREFIX, QWORD_PREFIX, STRING_PREFIX, BUFFER_OP, PACKAGE_OP, VAR_PACKAGE_OP}
use Rattle.aml_data.specs.declared.opcode.TheConstants.{REVISION_OP, EXT_OP_PREFIX, ONES_OP, NULL_NAME, DUAL_NAME_PREFIX, MULTI_NAME_PREFIX, ROOT_CHAR, PARENT_PREFIX_CHAR}
use Rattle.aml_data.specs.declared.limits.TheConstants.{DEEPEST}
use Rattle.aml_data.specs.declared.data.Data.{Data}
use Rattle.aml_data.specs.declared.fault.DataFault.{DataFault}
use Rattle.aml_data.specs.declared.fault.DataFault.TheVariants.{Short, BadLead, BadName, BadText, TooMany, TooDeep}
use Rattle.aml_data.specs.Grammar.{Const, Prefix, IsAscii, SpellsWithin}
use Rattle.aml_data.specs.Layouts.{Octet, FewerThan, Holds, SizedFails}
pub use Rattle.aml_data.specs.Lengths.{LenFails, fails_no_length, fails_reserved_bit, fails_few_following, fails_wrong_length}
use Rattle.aml_data.specs.Segment.{is_letter, is_word, IsSegment, begins_name}

-- how many bytes follow the lead byte of an integer constant
pub data Follows : ℕ → ℕ → Type 0 where
  follows_byte : Follows BYTE_PREFIX 1
  follows_word : Follows WORD_PREFIX 2
  follows_double : Follows DWORD_PREFIX 4
  follows_quad : Follows QWORD_PREFIX 8

-- a byte that begins no integer constant
abbrev pub IsNoConstant : ℕ → Type 0
IsNoConstant lead = (lead ≢ ZERO_OP) × (lead ≢ ONE_OP) × (lead ≢ BYTE_PREFIX) × (lead ≢ WORD_PREFIX) × (lead ≢ DWORD_PREFIX)
    × (lead ≢ QWORD_PREFIX)

-- an integer constant: its lead byte, and then the bytes of its number
pub data ConstFails : ℕ → List ℕ → DataFault → Type 0 where
  fails_no_constant : {end : ℕ} → ConstFails end [] (Short end)
  fails_few_bytes : {end lead n : ℕ} {rest : List ℕ} → Follows lead n → length rest < n → ConstFails end (lead ∷ rest) (Short end)
  fails_other_byte : {end lead : ℕ} {rest : List ℕ} → IsNoConstant lead
      → ConstFails end (lead ∷ rest) (BadLead (end - length (lead ∷ rest)) lead)

-- a string behind its lead byte: its bytes up to the 0 that ends it
pub data TextFails : ℕ → List ℕ → DataFault → Type 0 where
  fails_no_end : {end : ℕ} (t : List ℕ) → AllByRecursion IsAscii t → TextFails end t (Short end)
  fails_high_byte : {end b : ℕ} (t rest : List ℕ) → AllByRecursion IsAscii t → 128 ≤ b
      → TextFails end (t ++ b ∷ rest) (BadText (end - length (b ∷ rest)))

-- a byte that must pass a test
pub data LetterFails (test : ℕ → Bool) : ℕ → List ℕ → DataFault → Type 0 where
  fails_no_letter : {end : ℕ} → LetterFails test end [] (Short end)
  fails_wrong_letter : {end b : ℕ} {rest : List ℕ} → test b ≡ false → LetterFails test end (b ∷ rest) (BadName (end - length (b ∷ rest)))

-- a segment: each of its four characters
pub data SegmentFails : ℕ → List ℕ → DataFault → Type 0 where
  fails_at_first : {end : ℕ} {bytes : List ℕ} {fault : DataFault} → LetterFails is_letter end bytes fault → SegmentFails end bytes fault
  fails_at_second : {end a : ℕ} {bytes : List ℕ} {fault : DataFault} → IsTrue (is_letter a) → LetterFails is_word end bytes fault
      → SegmentFails end (a ∷ bytes) fault
  fails_at_third : {end a b : ℕ} {bytes : List ℕ} {fault : DataFault} → IsTrue (is_letter a) → IsTrue (is_word b)
      → LetterFails is_word end bytes fault → SegmentFails end (a ∷ b ∷ bytes) fault
  fails_at_fourth : {end a b c : ℕ} {bytes : List ℕ} {fault : DataFault} → IsTrue (is_letter a) → IsTrue (is_word b) → IsTrue (is_word c)
      → LetterFails is_word end bytes fault → SegmentFails end (a ∷ b ∷ c ∷ bytes) fault

-- so many segments: this one, or one after it
pub data SeveralFail : ℕ → ℕ → List ℕ → DataFault → Type 0 where
  fails_this_segment : {n end : ℕ} {bytes : List ℕ} {fault : DataFault} → SegmentFails end bytes fault → SeveralFail (suc n) end bytes fault
  fails_later_segment : {n end : ℕ} {fault : DataFault} (s rest : List ℕ) → IsSegment s → SeveralFail n end rest fault
      → SeveralFail (suc n) end (s ++ rest) fault

-- the segments of a name, by their first byte
pub data SegmentsFail : ℕ → List ℕ → DataFault → Type 0 where
  fails_no_segments : {end : ℕ} → SegmentsFail end [] (Short end)
  fails_in_two : {end : ℕ} {bytes : List ℕ} {fault : DataFault} → SeveralFail 2 end bytes fault
      → SegmentsFail end (DUAL_NAME_PREFIX ∷ bytes) fault
  fails_no_count : {end : ℕ} → SegmentsFail end (MULTI_NAME_PREFIX ∷ []) (Short end)
  fails_count_zero : {end : ℕ} {rest : List ℕ} → SegmentsFail end (MULTI_NAME_PREFIX ∷ 0 ∷ rest) (BadName (end - length (0 ∷ rest)))
  fails_in_many : {end n : ℕ} {bytes : List ℕ} {fault : DataFault} → 0 < n → SeveralFail n end bytes fault
      → SegmentsFail end (MULTI_NAME_PREFIX ∷ n ∷ bytes) fault
  fails_in_one : {end b : ℕ} {rest : List ℕ} {fault : DataFault} → b ≢ NULL_NAME → b ≢ DUAL_NAME_PREFIX → b ≢ MULTI_NAME_PREFIX
      → SeveralFail 1 end (b ∷ rest) fault
      → SegmentsFail end (b ∷ rest) fault

-- the longest prefix stands in front
pub data EndsPrefix : Bool → ℕ → List ℕ → Type 0 where
  ends_root : {rest : List ℕ} → EndsPrefix true 0 rest
  ends_bytes : {ups : ℕ} → EndsPrefix false ups []
  ends_ups : {ups b : ℕ} {rest : List ℕ} → b ≢ PARENT_PREFIX_CHAR → (ups ≡ 0 → b ≢ ROOT_CHAR) → EndsPrefix false ups (b ∷ rest)

-- a name: its prefix never fails, its segments may
pub data NameFails : ℕ → List ℕ → DataFault → Type 0 where
  fails_in_segments : {end ups : ℕ} {root : Bool} {fault : DataFault} (p rest : List ℕ) → Prefix root ups p → EndsPrefix root ups rest
      → SegmentsFail end rest fault → NameFails end (p ++ rest) fault

-- a byte that begins no data object
pub record BeginsNothing (lead : ℕ) : Type 0 where
  pub constant : IsNoConstant lead
  pub ones : lead ≢ ONES_OP
  pub revision : lead ≢ EXT_OP_PREFIX
  pub string : lead ≢ STRING_PREFIX
  pub buffer : lead ≢ BUFFER_OP
  pub pack : lead ≢ PACKAGE_OP
  pub var_pack : lead ≢ VAR_PACKAGE_OP
  pub name : begins_name lead ≡ false

-- A data object that may nest so deep: its lead byte, and then the parts that the lead byte says. In a package these are
-- the nesting, the PkgLength with the count that it holds, and the elements.
mutual
  pub data FailsWithin : ℕ → ℕ → List ℕ → DataFault → Type 0 where
    fails_no_object : {depth end : ℕ} → FailsWithin depth end [] (Short end)
    fails_other_lead : {depth end lead : ℕ} {rest : List ℕ} → BeginsNothing lead
        → FailsWithin depth end (lead ∷ rest) (BadLead (end - length (lead ∷ rest)) lead)
    fails_in_constant : {depth end lead n : ℕ} {rest : List ℕ} → Follows lead n → length rest < n
        → FailsWithin depth end (lead ∷ rest) (Short end)
    fails_no_second : {depth end : ℕ} → FailsWithin depth end (EXT_OP_PREFIX ∷ []) (Short end)
    fails_other_second : {depth end b : ℕ} {rest : List ℕ} → b ≢ REVISION_OP
        → FailsWithin depth end (EXT_OP_PREFIX ∷ b ∷ rest) (BadLead (end - length (b ∷ rest)) b)
    fails_in_text : {depth end : ℕ} {rest : List ℕ} {fault : DataFault} → TextFails end rest fault
        → FailsWithin depth end (STRING_PREFIX ∷ rest) fault
    fails_in_path : {depth end lead : ℕ} {rest : List ℕ} {fault : DataFault} → begins_name lead ≡ true → NameFails end (lead ∷ rest) fault
        → FailsWithin depth end (lead ∷ rest) fault
    fails_in_buffer : {depth end : ℕ} {rest : List ℕ} {fault : DataFault} → SizedFails ConstFails end rest fault
        → FailsWithin depth end (BUFFER_OP ∷ rest) fault
    fails_too_deep : {end : ℕ} {rest : List ℕ} → FailsWithin zero end (PACKAGE_OP ∷ rest) (TooDeep (end - length (PACKAGE_OP ∷ rest)))
    fails_in_count : {depth end : ℕ} {rest : List ℕ} {fault : DataFault} → SizedFails (FewerThan 1) end rest fault
        → FailsWithin (suc depth) end (PACKAGE_OP ∷ rest) fault
    fails_in_elements : {depth end count : ℕ} {fault : DataFault} {c body : List ℕ} (b rest : List ℕ) → Holds (c ++ body) b → Octet count c
        → ElementsFail depth count (end - length rest) body fault → FailsWithin (suc depth) end (PACKAGE_OP ∷ (b ++ rest)) fault
    fails_var_too_deep : {end : ℕ} {rest : List ℕ}
        → FailsWithin zero end (VAR_PACKAGE_OP ∷ rest) (TooDeep (end - length (VAR_PACKAGE_OP ∷ rest)))
    fails_in_var_count : {depth end : ℕ} {rest : List ℕ} {fault : DataFault} → SizedFails ConstFails end rest fault
        → FailsWithin (suc depth) end (VAR_PACKAGE_OP ∷ rest) fault
    fails_in_var_elements : {depth end count : ℕ} {fault : DataFault} {c body : List ℕ} (b rest : List ℕ) → Holds (c ++ body) b
        → Const count c
        → ElementsFail depth count (end - length rest) body fault → FailsWithin (suc depth) end (VAR_PACKAGE_OP ∷ (b ++ rest)) fault

  -- the elements of a package of so many, where its bytes go on: one too many, this one, or one after it
  pub data ElementsFail : ℕ → ℕ → ℕ → List ℕ → DataFault → Type 0 where
    fails_too_many : {depth end b : ℕ} {rest : List ℕ} → ElementsFail depth 0 end (b ∷ rest) (TooMany (end - length (b ∷ rest)))
    fails_this_element : {depth count end b : ℕ} {rest : List ℕ} {fault : DataFault} → FailsWithin depth end (b ∷ rest) fault
        → ElementsFail depth (suc count) end (b ∷ rest) fault
    fails_later_element : {depth count end : ℕ} {fault : DataFault} (v : Data) (c rest : List ℕ) → SpellsWithin depth v c
        → ElementsFail depth count end rest fault → ElementsFail depth (suc count) end (c ++ rest) fault

-- a data object, at most 32 levels deep
abbrev pub Fails : ℕ → List ℕ → DataFault → Type 0
Fails end bytes fault = FailsWithin DEEPEST end bytes fault
