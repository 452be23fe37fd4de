-- A certificate of a pool, and what it says.
use Rattle.std.specs.Prelude.{◌≡◌, ℕ}
use Rattle.trust.specs.Chains.{Pool, Certificate}
use Rattle.chain.specs.Views.{view_pool}
use Rattle.chain.specs.declared.certificate.CertificateView.{CertificateView}
use Rattle.chain.specs.declared.view.PoolView.{PoolView}

-- the pool that it stands in
abbrev pub certificate_pool : CertificateView → Pool
certificate_pool c = view_pool c.view.now

-- what it says
abbrev pub said : CertificateView → Certificate
said c = (certificate_pool c).certificate c.index

-- c is certificate i of the view v
abbrev pub IsAt : PoolView → ℕ → CertificateView → Type 0
IsAt v i c = (c.view.now ≡ v) × (c.index ≡ i)
