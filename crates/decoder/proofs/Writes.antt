-- A block written where its data goes: it reads as written, and all else as before.
use Rattle.std.proofs.Common.{◌≡◌, ℕ, ◌-◌, ◌<◌, ◌≤◌, Bool, true, false, eqb, ltb, List, [], ◌∷◌, ◌++◌, length, drop, Some, None, Ok, Err, Option, sym, refl, ap, ◌∙◌, subst, ⊎_elim, arith}
use Rattle.std.proofs.ByRecursion.{All-from_get_or}
use Rattle.std.proofs.lemmas.List.{append_assoc, length-append, length-drop, drop-append-le, drop_at}
use Rattle.std.proofs.lemmas.Bool.{cond-true, cond-false, cases_Bool, cases_lt, and_parts, eqb-true, lt-ltb, le-ltb}
use Rattle.disk.specs.declared.cause.Cause.TheVariants.{ShortFrame}
use Rattle.disk.specs.Bytes.{Bytes}
use Rattle.track.specs.Circles.{turned, start, before, frames, tens, cut}
use Rattle.track.specs.Fetching.{laid}
use Rattle.track.specs.Headers.{header, place_is, sound_head}
use Rattle.track.specs.Laying.{laid_on}
use Rattle.track.specs.Places.{last_or}
use Rattle.track.specs.Reading.{sought, sought_data, read_block, data_of, Sought, at, missing}
use Rattle.track.specs.Room.{room, sought_room, room_for, FreeAt}
use Rattle.track.proofs.Circles.{length_turned}
use Rattle.track.proofs.Turns.{sought_turned}
use Rattle.laying.specs.Laws.{Framed, SameSyncs}
use Rattle.laying.proofs.Fronts.{first_frame, opened}
use Rattle.laying.proofs.Frames.{framed, framed_rest, framed_join}
use Rattle.laying.proofs.Replaces.{replaced, syncs_stay, tail_of}
use Rattle.decoder.specs.Writing.{data_bits}
use Rattle.decoder.specs.Laws.{Writing}
use Rattle.decoder.proofs.Codes.{Lays, lays}
use Rattle.decoder.proofs.Swaps.{found_first, swapped}

room_free : (o : Option (Bool × (ℕ × ℕ))) (n : ℕ) → room o n ≡ Ok tt → (o ≡ None) × (2600 ≤ n)
room_free (Some h) n e = cc
room_free None n e =
    ⊎_elim
    (λ l. let z : Err ShortFrame ≡ Ok tt = sym (cond-true (ltb n 2600) (Err ShortFrame) (Ok tt) (lt-ltb n 2600 l)) ∙ e in cc)
    (λ l. (refl, l))
    (cases_lt n 2600)

-- a free block has its data's frame, which is no header and long enough
free_frame : (o : Sought) → sought_room o ≡ Ok tt → (f : List Bool) × (o ≡ at f) × (header f ≡ None) × (2600 ≤ length f)
free_frame (missing n) e = cc
free_frame (at f) e = let r = room_free (header f) (length f) e in (f, refl, r.0, r.1)

room_is : (o : Option (Bool × (ℕ × ℕ))) (n : ℕ) → o ≡ None → 2600 ≤ n → room o n ≡ Ok tt
room_is o n e h = ap (λ (z : Option (Bool × (ℕ × ℕ))). room z n) e ∙ cond-false (ltb n 2600) (Err ShortFrame) (Ok tt) (le-ltb n 2600 h)

-- laying the front of new bits of a frame is laying all of them, where the rest is what was there
laid_front : (l g w d : List Bool) → d ≡ g ++ w → length l ≤ length g → laid l d ≡ laid (l ++ drop (length l) g) d
laid_front l g w d e h =
    let r : List Bool = drop (length l) g in
    let n : length g ≡ length (l ++ r) = sym (length-append l r ∙ (let k = length-drop (length l) g in omega arith)) in
    ap (λ (z : List Bool). l ++ drop (length l) z) e ∙ ap (λ (z : List Bool). l ++ z) (drop-append-le (length l) g w h) ∙ sym (append_assoc l r w)
    ∙ sym (ap (λ (z : List Bool). (l ++ r) ++ drop (length (l ++ r)) z) e ∙ ap (λ (z : List Bool). (l ++ r) ++ z) (drop_at g w (length (l ++ r)) n))

-- what is found before and after
record Found (c d : List Bool) (b : List ℕ) (t s : ℕ) : Type 0 where
  frame : List Bool
  own : sought (frames d) t s ≡ at frame
  plain : header frame ≡ None
  long : 2600 ≤ length frame
  holds : data_of frame ≡ Ok b
  others : (u v : ℕ) → place_is t s (u, v) ≡ false → sought (frames d) u v ≡ sought (frames c) u v
  syncs : SameSyncs c d
  fits : 2600 ≤ length c

found : (c l : List Bool) (t s p : ℕ) (b : List ℕ) → Lays l b → FreeAt c t s p → Found c (laid_on p l c) b t s
found c l t s p b L F =
    let h : p ≤ length c = (let n = F.near in omega arith) in
    let d : List Bool = turned p c in
    let g : List Bool = before d in
    let q = and_parts (start d) (sound_head t s (header (last_or [] (frames d)))) F.placed in
    let o = opened d q.0 in
    let k = free_frame (sought (frames c) t s) F.room in
    let bg : before (g ++ (tens ++ o.0)) ≡ g = sym (ap before o.1) in
    let G : Framed g = framed g o.0 o.2 bg in
    let fs : List (List Bool) = cut true o.0 in
    let eg : frames d ≡ g ∷ fs = ap frames o.1 ∙ first_frame g o.0 o.2 bg (sym (ap start o.1) ∙ q.0) in
    let old : (u v : ℕ) → sought (frames c) u v ≡ sought (g ∷ fs) u v = λ u v. sym (sought_turned p c h u v) ∙ ap (λ (z : List (List Bool)). sought z u v) eg in
    let ws : sound_head t s (header (last_or g fs)) ≡ true = sym (ap (λ (z : List (List Bool)). sound_head t s (header (last_or [] z))) eg) ∙ q.1 in
    let e0 : sought (g ∷ fs) t s ≡ at k.0 = sym (old t s) ∙ k.1 in
    let same : g ≡ k.0 = found_first g fs t s k.0 ws e0 in
    let hg : header g ≡ None = ap header same ∙ k.2 in
    let ag : sought (g ∷ fs) t s ≡ at g = e0 ∙ ap (λ (z : List Bool). at z) (sym same) in
    let m : length g ≡ length k.0 = ap length same in
    let long = k.3 in
    let ll = L.long in
    let r : List Bool = drop (length l) g in
    let x : List Bool = l ++ r in
    let nx : length x ≡ length g = length-append l r ∙ (let i = length-drop (length l) g in omega arith) in
    let X : Framed x = framed_join l r (L.begins r) L.ends (L.calm r) (framed_rest (length l) g G) in
    let R = replaced c x p h q.0 X nx in
    let ed : laid_on p l c ≡ laid_on p x c = ap (turned (length c - p)) (laid_front l g (tens ++ o.0) d o.1 (omega arith)) in
    let c' : List Bool = laid_on p x c in
    let en : frames (turned p c') ≡ x ∷ fs = R.new_frames ∙ ap (λ (z : List (List Bool)). x ∷ z) (tail_of R.frame g (cut true R.more) fs (sym R.old_frames ∙ eg)) in
    let hp : p ≤ length c' = (let z = R.size in omega arith) in
    let new : (u v : ℕ) → sought (frames c') u v ≡ sought (x ∷ fs) u v = λ u v. sym (sought_turned p c' hp u v) ∙ ap (λ (z : List (List Bool)). sought z u v) en in
    let W = swapped g x fs t s hg (L.plain r) ws ag in
    subst (λ (z : List Bool). Found c z b t s) (sym ed)
    (record {
      frame = x;
      own = new t s ∙ W.own;
      plain = L.plain r;
      long = (let a = length-append l r in omega arith);
      holds = L.holds r;
      others = λ u v f. new u v ∙ W.others u v f ∙ sym (old u v);
      syncs = syncs_stay c x p h R;
      fits = (let i = ap length o.1 in let j = length-append g (tens ++ o.0) in let z = length_turned p c in omega arith);
    })

bits_lay : (b : List ℕ) → length b ≡ 256 → Bytes b → Lays (data_bits b) b
bits_lay b n h = lays b n (All-from_get_or (λ x. x < 256) b 0 (λ i _. h i))

-- the bits of a free block fit on its circle
pub write_fits : (c : List Bool) (t s p : ℕ) (b : List ℕ) → length b ≡ 256 → Bytes b → FreeAt c t s p → 2600 ≤ length c
write_fits c t s p b n h F = (found c (data_bits b) t s p b (bits_lay b n h) F).fits

pub writing : Writing data_bits
writing c t s p b n h F =
    let d : List Bool = laid_on p (data_bits b) c in
    let Z = found c (data_bits b) t s p b (bits_lay b n h) F in
    let is : (u v : ℕ) → place_is t s (u, v) ≡ true → (u ≡ t) × (v ≡ s) = λ u v z. let q = and_parts (eqb u t) (eqb v s) z in (eqb-true u t q.0, eqb-true v s q.1) in
    record {
      blocks = λ u v.
          ⊎_elim
          (λ z. let q = is u v z in
          ap (λ (i : ℕ). read_block (frames d) i v) q.0 ∙ ap (λ (j : ℕ). read_block (frames d) t j) q.1
          ∙ ap sought_data Z.own ∙ Z.holds ∙ sym (cond-true (place_is t s (u, v)) (Ok b) (read_block (frames c) u v) z))
          (λ z. ap sought_data (Z.others u v z) ∙ sym (cond-false (place_is t s (u, v)) (Ok b) (read_block (frames c) u v) z))
          (cases_Bool (place_is t s (u, v)));
      rooms = λ u v.
          ⊎_elim
          (λ z. let q = is u v z in
          ap (λ (i : ℕ). room_for (frames d) i v) q.0 ∙ ap (λ (j : ℕ). room_for (frames d) t j) q.1
          ∙ ap sought_room Z.own ∙ room_is (header Z.frame) (length Z.frame) Z.plain Z.long
          ∙ sym (ap (λ (i : ℕ). room_for (frames c) i v) q.0 ∙ ap (λ (j : ℕ). room_for (frames c) t j) q.1 ∙ F.room))
          (λ z. ap sought_room (Z.others u v z))
          (cases_Bool (place_is t s (u, v)));
      syncs = Z.syncs;
    }
