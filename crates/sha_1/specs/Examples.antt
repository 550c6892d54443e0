-- The two examples for SHA-1 of FIPS 180-4 (in NIST's page of examples): "abc", and a message of two blocks.
use Rattle.std.specs.Prelude.{◌≡◌, ℕ, List, [], ◌∷◌}
use Rattle.lists.specs.Numbers.{big}
use Rattle.geometry.specs.Geometry.{digest_size}
use Rattle.sha_1.specs.Sha1.{sha1}

-- "abcdbcdecdefdefgefghfghighijhijkijkljklmklmnlmnomnopnopq"
abbrev pub two_blocks : List ℕ
two_blocks =
    97 ∷ 98 ∷ 99 ∷ 100 ∷ 98 ∷ 99 ∷ 100 ∷ 101 ∷ 99 ∷ 100 ∷ 101 ∷ 102 ∷ 100 ∷ 101 ∷ 102 ∷ 103 ∷ 101 ∷ 102 ∷ 103 ∷ 104 ∷ 102 ∷ 103 ∷ 104 ∷ 105
    ∷ 103 ∷ 104 ∷ 105 ∷ 106 ∷ 104 ∷ 105 ∷ 106 ∷ 107 ∷ 105 ∷ 106 ∷ 107 ∷ 108 ∷ 106 ∷ 107 ∷ 108 ∷ 109 ∷ 107 ∷ 108 ∷ 109 ∷ 110 ∷ 108 ∷ 109 ∷ 110
    ∷ 111 ∷ 109 ∷ 110 ∷ 111 ∷ 112 ∷ 110 ∷ 111 ∷ 112 ∷ 113 ∷ []

pub record Examples : Type 0 where
  pub abc : sha1 (97 ∷ 98 ∷ 99 ∷ []) ≡ big digest_size 0xa9993e36_4706816a_ba3e2571_7850c26c_9cd0d89d
  pub two : sha1 two_blocks ≡ big digest_size 0x84983e44_1c3bd26e_baae4aa1_f95129e5_e54670f1
