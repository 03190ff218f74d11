-- Going round a corner of the icosahedron, computed over the twenty faces and their three corners. Assumes nothing.
use mathlib.Core.Path.{◌≡◌}
use mathlib.Core.Bool.{Bool, false, not, ◌&&◌}
use Prim.Native.Nat.{ℕ, zero, suc, ◌<◌}
use lib.Dec.{T, eqb, eqb→eq}
use lib.Ieee.Bits.{is_false}
use lib.Ieee.Fits.{and_l, and_r}
use Rattle.reply.specs.Choice.{pick}
use Rattle.level.proofs.Computed.{all, at}
use Rattle.faceijk.specs.Faces.{face_over}
use Rattle.faceijk.proofs.Faces.{back_over}
use Rattle.faceijk.proofs.Edges.{Edge, ij, ki, jk}

-- a face and one of its edges, which stands for the corner where that edge begins: IJ at (m,0,0), JK at (0,m,0), KI at (0,0,m)
pub record Dart : Type 0 where
  pub face : ℕ
  pub edge : ℕ

abbrev pub dart : ℕ → ℕ → Dart
dart f e = record { face = f; edge = e }

-- the edge that begins where e ends, and the one that ends where e begins
abbrev pub after : ℕ → ℕ
after e = pick (eqb e 1) 3 (pick (eqb e 3) 2 1)

abbrev pub before : ℕ → ℕ
before e = pick (eqb e 1) 2 (pick (eqb e 3) 1 3)

-- the same corner, as the face over the edge names it; and as the face over the corner's other edge does
abbrev pub onward : Dart → Dart
onward d = dart (face_over d.face d.edge) (after (back_over d.face d.edge))

abbrev pub behind : Dart → Dart
behind d = dart (face_over d.face (before d.edge)) (back_over d.face (before d.edge))

abbrev pub onwards : ℕ → Dart → Dart
onwards zero d = d
onwards (suc n) d = onwards n (onward d)

abbrev same_dart : Dart → Dart → Bool
same_dart a b = eqb a.face b.face && eqb a.edge b.edge

-- five names, five faces: the fifth step comes home, no step before does, and the way back is four steps on
pub record Five (d : Dart) : Type 0 where
  pub home : onwards 5 d ≡ d
  pub back : behind d ≡ onwards 4 d
  pub face_1 : eqb (onwards 1 d).face d.face ≡ false
  pub face_2 : eqb (onwards 2 d).face d.face ≡ false
  pub face_3 : eqb (onwards 3 d).face d.face ≡ false
  pub face_4 : eqb (onwards 4 d).face d.face ≡ false

abbrev five : Dart → Bool
five d =
    same_dart (onwards 5 d) d && (same_dart (behind d) (onwards 4 d) && (not (eqb (onwards 1 d).face d.face) && (not (eqb (onwards 2 d).face d.face) && (not (eqb (onwards 3 d).face d.face) && not (eqb (onwards 4 d).face d.face)))))

same_dart_lem : (a b : Dart) → T (same_dart a b) → a ≡ b
same_dart_lem a b t =
    let f = eqb→eq a.face b.face (and_l (eqb a.face b.face) _ t) in
    let e = eqb→eq a.edge b.edge (and_r (eqb a.face b.face) _ t) in
    λ n. dart (f n) (e n)

told : (d : Dart) → T (five d) → Five d
told d t =
    let r = and_r (same_dart (onwards 5 d) d) _ t in
    let s = and_r (same_dart (behind d) (onwards 4 d)) _ r in
    let s1 = and_r (not (eqb (onwards 1 d).face d.face)) _ s in
    let s2 = and_r (not (eqb (onwards 2 d).face d.face)) _ s1 in
    let s3 = and_r (not (eqb (onwards 3 d).face d.face)) _ s2 in
    record {
      home = same_dart_lem _ _ (and_l (same_dart (onwards 5 d) d) _ t);
      back = same_dart_lem _ _ (and_l (same_dart (behind d) (onwards 4 d)) _ r);
      face_1 = is_false _ (and_l (not (eqb (onwards 1 d).face d.face)) _ s);
      face_2 = is_false _ (and_l (not (eqb (onwards 2 d).face d.face)) _ s1);
      face_3 = is_false _ (and_l (not (eqb (onwards 3 d).face d.face)) _ s2);
      face_4 = is_false _ s3;
    }

five_at : (e : ℕ) → T (all (λ (f : ℕ). five (dart f e)) 20) → (f : ℕ) → f < 20 → Five (dart f e)
five_at e t f h = told (dart f e) (at (λ (k : ℕ). five (dart k e)) 20 t f h)

pub five_round : {e : ℕ} → Edge e → (f : ℕ) → f < 20 → Five (dart f e)
five_round ij = five_at 1 tt
five_round ki = five_at 2 tt
five_round jk = five_at 3 tt

-- the edge that leads back from the edge that leads back is the edge itself
abbrev returns_to : ℕ → ℕ → Bool
returns_to e f = eqb (back_over (face_over f e) (back_over f e)) e

back_at : (e : ℕ) → T (all (returns_to e) 20) → (f : ℕ) → f < 20 → back_over (face_over f e) (back_over f e) ≡ e
back_at e t f h = eqb→eq _ _ (at (returns_to e) 20 t f h)

pub back_back : {e : ℕ} → Edge e → (f : ℕ) → f < 20 → back_over (face_over f e) (back_over f e) ≡ e
back_back ij = back_at 1 tt
back_back ki = back_at 2 tt
back_back jk = back_at 3 tt
