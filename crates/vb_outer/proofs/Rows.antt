-- Worked rows of the definitions, by computation.
use Rattle.std.proofs.Common.{◌≡◌, ℕ, true, false, List, [], ◌∷◌, None, Some, ◌-◌, ◌^◌, refl}
use Rattle.vb_outer.specs.Calls.{Calls, fails_next, call_failed}
use Rattle.vb_outer.specs.Faults.{one_more}
use Rattle.vb_outer.specs.MemShelf.{ShelfState, file_named, names_differ, after_begin, read_count, after_read}
use Rattle.vb_outer.specs.MemSink.{after_write}
use Rattle.std.specs.Io.KnownBytes.{append_known, prepend_known}

-- a count goes up by one, and stops at the greatest u64
counts : one_more 0 ≡ 1
counts = refl

stops : one_more (2 ^ 64 - 1) ≡ 2 ^ 64 - 1
stops = refl

-- the second and the fourth call fail
abbrev calls : ℕ → Calls
calls made = record { failing = 4 ∷ 2 ∷ []; made = made; faults = 0 }

first_goes : fails_next (calls 0) ≡ false
first_goes = refl

second_fails : fails_next (calls 1) ≡ true
second_fails = refl

-- the files `a`, which is empty, and `b`, of three bytes
abbrev files : List (List ℕ × List ℕ)
files = (97 ∷ [], []) ∷ (98 ∷ [], 7 ∷ 8 ∷ 9 ∷ []) ∷ []

names_of_two : names_differ files ≡ true
names_of_two = refl

name_twice : names_differ ((98 ∷ [], []) ∷ files) ≡ false
name_twice = refl

found : file_named files (98 ∷ []) ≡ Some (7 ∷ 8 ∷ 9 ∷ [])
found = refl

missing : file_named files (97 ∷ 98 ∷ []) ≡ None
missing = refl

-- two bytes a call, after some calls
abbrev shelf : List ℕ → ℕ → ShelfState
shelf left made = record { files = files; left = left; most = 2; calls = calls made }

begun : after_begin (shelf [] 0) (98 ∷ []) ≡ shelf (7 ∷ 8 ∷ 9 ∷ []) 1
begun = refl

-- a missing name is no fault, also at a call that is to fail
begun_missing : after_begin (shelf (7 ∷ []) 1) (99 ∷ []) ≡ shelf [] 2
begun_missing = refl

begun_failing : after_begin (shelf (7 ∷ []) 1) (98 ∷ []) ≡ record { files = files; left = []; most = 2; calls = call_failed (calls 1) }
begun_failing = refl

read_two : after_read (shelf (7 ∷ 8 ∷ 9 ∷ []) 2) 5 ≡ shelf (9 ∷ []) 3
read_two = refl

read_to_a_small_buffer : read_count (shelf (7 ∷ 8 ∷ 9 ∷ []) 2) 1 ≡ 1
read_to_a_small_buffer = refl

read_failing : after_read (shelf (9 ∷ []) 3) 5 ≡ record { files = files; left = 9 ∷ []; most = 2; calls = call_failed (calls 3) }
read_failing = refl

written_two : after_write (record { written = 1 ∷ []; most = 2; calls = calls 0 }) (5 ∷ 6 ∷ 7 ∷ []) ≡ record { written = 1 ∷ 5 ∷ 6 ∷ []; most = 2; calls = calls 1 }
written_two = refl

-- what is told grows at its end and is read from its front; what is not told stays so
told : append_known (Some (1 ∷ [])) (2 ∷ []) ≡ Some (1 ∷ 2 ∷ [])
told = refl

not_told : append_known None (2 ∷ []) ≡ None
not_told = refl

left_before : prepend_known (1 ∷ []) (Some (2 ∷ [])) ≡ Some (1 ∷ 2 ∷ [])
left_before = refl
