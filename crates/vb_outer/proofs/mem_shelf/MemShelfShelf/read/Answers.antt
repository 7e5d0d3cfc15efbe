use Rattle.std.proofs.Common.{◌≡◌, ◌<◌, ◌≤◌, ◌++◌, ℕ, false, List, [], length, take, drop, map, min, sym, ap, ◌∙◌, Some, arith, take-append-drop, length-append, length-drop}
use Rattle.std.proofs.lemmas.List.{take_at, length-take, drop-drop, length-take-le, nil_from_length}
use Rattle.vb_outer.specs.Calls.{fails_next, called}
use Rattle.vb_outer.specs.MemShelf.{ShelfState, read_count}
use Rattle.vb_outer.specs.declared.mem_shelf.MemShelf.TheInside.{Inside}
use Rattle.vb_outer.specs.Place.{held, rest_at, bytes_at}
use Rattle.vb_outer.proofs.mem_shelf.MemShelfShelf.read.Goals as goal
use Rattle.vb_outer.proofs.mem_shelf.MemShelfShelf.read.Goals.{in-Some, in_default}

abbrev rest_of : Inside → List ℕ
rest_of shelf = rest_at shelf.files.items shelf.begun

drop_nil : (n : ℕ) (left : List ℕ) → left ≡ [] → drop n left ≡ []
drop_nil n left none = nil_from_length (drop n left) (omega (arith, length-drop n left, ap length none))

-- what came and what is left make what was left
joined : (left copied tail after : List ℕ) (count : ℕ) → count ≤ length left → copied ≡ take count left → after ≡ drop count left → left ≡ take count (copied ++ tail) ++ after
joined left copied tail after count within front back =
    let length_is : length copied ≡ count = ap length front ∙ length-take-le count left within in
    sym (take-append-drop count left) ∙ ap (λ (bytes : List ℕ). bytes ++ drop count left) (sym (take_at copied tail count length_is ∙ front)) ∙ ap (λ (bytes : List ℕ). take count (copied ++ tail) ++ bytes) (sym back)

-- a read that gives nothing is at the end
at_end : (left after : List ℕ) (most room count : ℕ) → 0 < most → 0 < room → count ≡ min (min most room) (length left) → count ≡ 0 → after ≡ drop count left → after ≡ []
at_end left after most room count some has_room is none back = nil_from_length after (omega (arith, ap length back, length-drop count left, is, none, some, has_room))

-- what the call copied, and how much that was
source : (c : goal.Joined-self) → c.rest-rest.result.now ≡ rest_of c.self.inside
source c = c.rest-rest.ensures ∙ ap (λ files. rest_at files c.self.inside.begun) c.deref.ensures.value

copied : (c : goal.Joined-self) → c.copy_from_slice.new.self ≡ take c.min-count.result (rest_of c.self.inside)
copied c = c.copy_from_slice.ensures.after ∙ ap (take c.min-count.result) (source c)

counted : (c : goal.Joined-self) → c.min-count.result ≡ min (min c.self.inside.most (length c.args.buf.now)) (length (rest_of c.self.inside))
counted c =
    c.min-count.ensures ∙ ap (λ n. min n (length c.rest-rest.result.now)) c.min.ensures ∙ ap (λ (bytes : List ℕ). min (min c.self.inside.most (length c.args.buf.now)) (length bytes)) (source c)

-- the shelf afterwards
left_after : (c : goal.Joined-self) → rest_of c.match-self.self-inside ≡ drop c.min-count.result (rest_of c.self.inside)
left_after c =
    let count = c.min-count.result in
    let left = rest_of c.self.inside in
    elim c.match-self.branch [
      | in-Some w ↦ ap rest_of w.self-inside-is ∙ sym (drop-drop count w.in-Some.place.at (bytes_at c.self.inside.files.items w.in-Some.place.file)) ∙ ap (λ begun. drop count (rest_at c.self.inside.files.items begun)) (sym w.in-Some.is)
      | in_default w ↦ ap rest_of w.self-inside-is ∙ ap (rest_at c.self.inside.files.items) w.in_default.is ∙ sym (drop_nil count left (ap (rest_at c.self.inside.files.items) w.in_default.is))
    ]

files_after : (c : goal.Joined-self) → map held c.match-self.self-inside.files.items ≡ map held c.self.inside.files.items
files_after c = elim c.match-self.branch [ in-Some w ↦ ap (λ (shelf : Inside). map held shelf.files.items) w.self-inside-is | in_default w ↦ ap (λ (shelf : Inside). map held shelf.files.items) w.self-inside-is ]

most_after : (c : goal.Joined-self) → c.match-self.self-inside.most ≡ c.self.inside.most
most_after c = elim c.match-self.branch [ in-Some w ↦ ap (λ (shelf : Inside). shelf.most) w.self-inside-is | in_default w ↦ ap (λ (shelf : Inside). shelf.most) w.self-inside-is ]

calls_after : (c : goal.Joined-self) → c.match-self.self-inside.schedule ≡ called c.self.inside.schedule
calls_after c = elim c.match-self.branch [ in-Some w ↦ ap (λ (shelf : Inside). shelf.schedule) w.self-inside-is ∙ c.call.ensures.counted | in_default w ↦ ap (λ (shelf : Inside). shelf.schedule) w.self-inside-is ∙ c.call.ensures.counted ]

pub returns-clause-bytes : goal.returns-clause-bytes
returns-clause-bytes c =
    let count = c.min-count.result in
    let left = rest_of c.self.inside in
    let within : count ≤ length left = omega (arith, counted c) in
    let tail = drop count c.args.buf.now in (
      ap (λ (shelf : ShelfState). Some shelf.left) (sym c.self.view_is) ∙ ap Some (joined left c.copy_from_slice.new.self tail (rest_of c.match-self.self-inside) count within (copied c) (left_after c)),
      λ none some.
          let has_room : 0 < length c.args.buf.now = omega (arith, some, none, length-append c.copy_from_slice.new.self tail, length-drop count c.args.buf.now, ap length (copied c), length-take count left) in
          at_end left (rest_of c.match-self.self-inside) c.self.inside.most (length c.args.buf.now) count c.self.invariant has_room (counted c) none (left_after c),
    )

pub returns-clause-count : goal.returns-clause-count
returns-clause-count c = counted c ∙ ap (λ (shelf : ShelfState). read_count shelf (length c.args.buf.now)) c.self.view_is

pub returns-clause-buffer : goal.returns-clause-buffer
returns-clause-buffer c =
    ap (λ (bytes : List ℕ). bytes ++ drop c.min-count.result c.args.buf.now) (copied c ∙ ap (λ (shelf : ShelfState). take c.min-count.result shelf.left) c.self.view_is)

pub returns-clause-after : goal.returns-clause-after
returns-clause-after c =
    let goes : fails_next c.self.inside.schedule ≡ false = sym c.call.ensures.fails ∙ c.if-call.false in
    let left = left_after c ∙ ap (λ n. drop n (rest_of c.self.inside)) (counted c) in
    rw (← c.self.view_is, goes) (λ i. record { files = files_after c i; left = left i; most = most_after c i; calls = calls_after c i })
